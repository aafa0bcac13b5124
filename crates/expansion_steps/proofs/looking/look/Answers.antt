use Rattle.std.proofs.Common.{sym, ap, ◌∙◌}
use Rattle.scheme_data.specs.Forms.{form}
use Rattle.core_forms.specs.Code.{data_of}
use Rattle.expansion_steps.specs.Heads.{macros_of, meaning_of}
use Rattle.expansion_steps.proofs.Decisions.{plain_found}
use Rattle.expansion_steps.proofs.looking.look.Goals as goal

pub returns-in-Plain : goal.returns-in-Plain
returns-in-Plain c = plain_found (macros_of c.args.ks.now) c.args.s.now c.args.n.now (form c.args.datum) (data_of c.args.others) (sym c.in_ok-rules.ensures ∙ ap meaning_of c.in-Plain.is)
