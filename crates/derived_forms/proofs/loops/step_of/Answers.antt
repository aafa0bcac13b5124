use Rattle.scheme_data.specs.Forms.{form}
use Rattle.derived_forms.proofs.NamedForms.{step_said, step_unsaid}
use Rattle.derived_forms.proofs.loops.step_of.Goals as goal

pub returns-in-Some : goal.returns-in-Some
returns-in-Some c = step_said c.args.step c.in-Some.step (form c.args.name.now) c.in-Some.is

pub returns-in-None : goal.returns-in-None
returns-in-None c = step_unsaid c.args.step (form c.args.name.now) c.untyped.result c.in-None.is c.untyped.ensures
