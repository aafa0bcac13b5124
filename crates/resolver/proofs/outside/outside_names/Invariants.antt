use Rattle.resolver.proofs.FirstSight.{AreOutside}
use Rattle.resolver.proofs.outside.outside_names.Given as goal

abbrev pub invariant-loop-top : goal.invariant-loop-top
invariant-loop-top l = AreOutside l.imports l.functions l.names l.tops l.top-index
