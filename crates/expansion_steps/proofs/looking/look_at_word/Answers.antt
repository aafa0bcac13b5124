use Rattle.std.proofs.Common.{ap, ◌∙◌}
use Rattle.scheme_data.specs.Forms.{form}
use Rattle.core_forms.specs.Scope.{special}
use Rattle.core_forms.specs.Code.{data_of}
use Rattle.expansion_steps.specs.Heads.{macros_of}
use Rattle.expansion_steps.proofs.Decisions.{expression_now}
use Rattle.expansion_steps.proofs.looking.look_at_word.Goals as goal

pub returns-in-Begin : goal.returns-in-Begin
returns-in-Begin c = λ h. c.begin.ensures (macros_of c.args.ks.now) c.args.s.now c.args.n.now (h ∙ ap special c.in-Begin.is)

pub returns-in-Define : goal.returns-in-Define
returns-in-Define c = λ h. c.look_at_definition.ensures (h ∙ ap special c.in-Define.is)

pub returns-in_default : goal.returns-in_default
returns-in_default c = λ h. expression_now (macros_of c.args.ks.now) c.args.s.now c.args.n.now (form c.args.datum) (data_of c.args.others) c.args.keyword h c.in_default.not-Begin c.in_default.not-Define
