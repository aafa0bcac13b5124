use Rattle.std.proofs.Common.{◌≡◌, ◌≤◌, take}
use Rattle.c_tree.specs.Steps.{weights}
use Rattle.c_tree.proofs.order.count.Given as goal

abbrev pub invariant-loop-piece : goal.invariant-loop-piece
invariant-loop-piece l = (l.count ≡ weights (take l.piece-index l.ps)) × (l.count ≤ l.piece-index)
