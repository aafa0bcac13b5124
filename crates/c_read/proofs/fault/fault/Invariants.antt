use Rattle.std.proofs.Common.{drop}
use Rattle.c_read.proofs.Faulty.{Reached}
use Rattle.c_read.proofs.fault.fault.Given as goal

abbrev pub invariant-loop-i : goal.invariant-loop-i
invariant-loop-i l = Reached l.bytes (drop l.i l.bytes) l.reach
