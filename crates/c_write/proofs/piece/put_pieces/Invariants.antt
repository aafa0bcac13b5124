use Rattle.std.proofs.Common.{take}
use Rattle.c_write.proofs.Lists.{listed_tokens}
use Rattle.c_write.specs.Adds.{Adds, anything}
use Rattle.c_write.proofs.piece.put_pieces.Given as goal

abbrev pub invariant-loop-piece : goal.invariant-loop-piece
invariant-loop-piece l = Adds anything anything l.fn.out l.out (listed_tokens (take l.piece-index l.pieces))
