use Rattle.std.proofs.Common.{◌≡◌, ◌++◌, length}
use Rattle.core_forms.proofs.build.listed.Given as goal

abbrev pub invariant-loop-item : goal.invariant-loop-item
invariant-loop-item l = l.items ++ l.stack ≡ l.initial.stack

abbrev pub decreases-loop-item : goal.decreases-loop-item
decreases-loop-item l = length l.stack
