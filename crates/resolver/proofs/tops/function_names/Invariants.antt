use Rattle.resolver.proofs.Tables.{IsListed}
use Rattle.resolver.proofs.tops.function_names.Given as goal

abbrev pub invariant-loop-top : goal.invariant-loop-top
invariant-loop-top l = IsListed l.tops l.names l.top-index
