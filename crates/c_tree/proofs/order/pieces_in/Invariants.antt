use Rattle.std.proofs.Common.{◌-◌, [], length}
use Rattle.c_tree.specs.Functions.{fun_of}
use Rattle.c_tree.specs.Pieces.{pieces}
use Rattle.c_tree.proofs.Forwards.{Shows}
use Rattle.c_tree.proofs.order.pieces_in.Given as goal

abbrev pub invariant-loop-shown : goal.invariant-loop-shown
invariant-loop-shown l = Shows l.stmts (pieces (fun_of l.fn.f).code []) l.walk l.shown

abbrev pub decreases-loop-shown : goal.decreases-loop-shown
decreases-loop-shown l = length (pieces (fun_of l.fn.f).code []) - length l.shown
