use Rattle.std.proofs.Common.{◌≡◌, take, ◌++◌}
use Rattle.c_write.specs.Escapes.{escaped}
use Rattle.c_write.proofs.quote.put_escaped.Given as goal

abbrev pub invariant-loop-byte : goal.invariant-loop-byte
invariant-loop-byte l = l.out ≡ l.fn.out ++ escaped (take l.byte-index l.bytes)
