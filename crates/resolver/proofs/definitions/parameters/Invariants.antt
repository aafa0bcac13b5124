use Rattle.resolver.proofs.Tables.{IsRead}
use Rattle.resolver.proofs.definitions.parameters.Given as goal

abbrev pub invariant-loop-d : goal.invariant-loop-d
invariant-loop-d l = IsRead l.ds l.params l.d-index
