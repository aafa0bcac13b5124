use Rattle.std.proofs.Common.{◌≡◌, ◌++◌, reverse, length}
use Rattle.linker.proofs.joining.push_items.Given as goal

abbrev pub invariant-loop-item : goal.invariant-loop-item
invariant-loop-item l = reverse l.unit ++ l.items ≡ l.fn.unit ++ l.fn.items

abbrev pub decreases-loop-item : goal.decreases-loop-item
decreases-loop-item l = length l.unit
