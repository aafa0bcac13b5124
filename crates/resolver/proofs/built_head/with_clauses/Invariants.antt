use Rattle.resolver.proofs.Adding.{AreAdded}
use Rattle.resolver.proofs.built_head.with_clauses.Given as goal

abbrev pub invariant-loop-d : goal.invariant-loop-d
invariant-loop-d l = AreAdded l.fn.name l.ds l.head l.d-index
