use Rattle.std.proofs.Common.{◌≡◌, ◌++◌, replicate}
use Rattle.c_machine.proofs.calling.push_zeros.Given as goal

abbrev pub invariant-loop-i : goal.invariant-loop-i
invariant-loop-i l = l.slots.items ≡ l.initial.slots.items ++ replicate l.i 0
