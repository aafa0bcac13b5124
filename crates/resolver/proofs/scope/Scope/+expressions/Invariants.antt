use Rattle.resolver.specs.Parts.{scope_of}
use Rattle.resolver.proofs.Calls.{IsSoFar}
use Rattle.resolver.proofs.scope.Scope.+expressions.Given as goal

abbrev pub invariant-expressions-loop-d : goal.invariant-expressions-loop-d
invariant-expressions-loop-d l = IsSoFar (scope_of l.self) l.ds l.nodes l.d-index
