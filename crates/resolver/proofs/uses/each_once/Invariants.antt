use Rattle.resolver.proofs.UseLists.{AreSeen}
use Rattle.resolver.proofs.uses.each_once.Given as goal

abbrev pub invariant-loop-t : goal.invariant-loop-t
invariant-loop-t l = AreSeen l.taken l.t-index l.seen.keys l.uses
