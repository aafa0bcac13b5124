use Rattle.std.proofs.Common.{sym, ap, ◌∙◌}
use Rattle.scheme_data.specs.Forms.{form}
use Rattle.expansion_steps.specs.Heads.{macros_of, meaning_of}
use Rattle.expansion_steps.proofs.Decisions.{plain_now}
use Rattle.expansion_steps.proofs.looking.settle_datum.Goals as goal

pub returns-in-Plain : goal.returns-in-Plain
returns-in-Plain c = plain_now (macros_of c.args.ks.now) c.args.s.now c.args.n.now (form c.args.value) (sym c.in_ok-head_of.ensures ∙ ap meaning_of c.in-Plain.is)
