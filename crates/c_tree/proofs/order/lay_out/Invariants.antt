use Rattle.std.proofs.Common.{length}
use Rattle.c_tree.proofs.Backwards.{Stands}
use Rattle.c_tree.proofs.order.lay_out.Given as goal

abbrev pub invariant-loop-piece : goal.invariant-loop-piece
invariant-loop-piece l = Stands l.fn.ps l.rest l.building

abbrev pub decreases-loop-piece : goal.decreases-loop-piece
decreases-loop-piece l = length l.rest
