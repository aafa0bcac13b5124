use Rattle.std.proofs.Common.{sym, ap, ◌∙◌}
use Rattle.resolver.specs.declared.tops.TopForm.{TopForm}
use Rattle.resolver.specs.Parts.{param_count, top_of}
use Rattle.resolver.proofs.tops.TopForm.param_count.Goals as goal

pub returns-in-Define : goal.returns-in-Define
returns-in-Define c = c.len.ensures.len ∙ ap (λ (t : TopForm). param_count (top_of t)) (sym c.in-Define.is)

pub returns-in-Evaluate : goal.returns-in-Evaluate
returns-in-Evaluate c = ap (λ (t : TopForm). param_count (top_of t)) (sym c.in-Evaluate.is)
