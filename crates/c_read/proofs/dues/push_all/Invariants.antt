use Rattle.std.proofs.Common.{◌≡◌, ◌++◌, drop}
use Rattle.c_read.proofs.dues.push_all.Given as goal

abbrev pub invariant-loop-i : goal.invariant-loop-i
invariant-loop-i l = l.dues ≡ drop l.i l.more ++ l.fn.dues
