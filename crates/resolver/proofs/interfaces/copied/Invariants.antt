use Rattle.std.proofs.Common.{◌≡◌, take}
use Rattle.resolver.proofs.interfaces.copied.Given as goal

abbrev pub invariant-loop-t : goal.invariant-loop-t
invariant-loop-t l = l.copy ≡ take l.t-index l.types
