use Rattle.resolver.proofs.DefinedForms.{AreTops}
use Rattle.resolver.proofs.tops.top_forms.Given as goal

abbrev pub invariant-loop-d : goal.invariant-loop-d
invariant-loop-d l = AreTops l.ds l.tops l.d-index
