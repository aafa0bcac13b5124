use Rattle.c_check.proofs.Using.{UsedFrom, uses_at}
use Rattle.c_check.proofs.used.note_pieces.Given as goal

abbrev pub invariant-loop-piece : goal.invariant-loop-piece
invariant-loop-piece l = UsedFrom uses_at l.fn.used l.pieces l.piece-index l.used
