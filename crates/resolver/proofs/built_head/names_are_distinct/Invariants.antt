use Rattle.resolver.proofs.Exported.{IsListed}
use Rattle.resolver.proofs.built_head.names_are_distinct.Given as goal

abbrev pub invariant-loop-export : goal.invariant-loop-export
invariant-loop-export l = IsListed l.exports l.names l.export-index
