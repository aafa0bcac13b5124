use Rattle.std.proofs.Common.{◌≡◌, IfOk, subst, rules}
use Rattle.scheme_data.specs.Forms.{form, Form}
use Rattle.derived_forms.proofs.LoopForms.{some-results}
use Rattle.derived_forms.proofs.loops.results.Goals as goal

pub returns : goal.returns
returns c = subst (λ (f : Form). IfOk c.core.result (λ d. form d ≡ f)) (some-results c.args.at c.args.items (search rules)) c.core.ensures
