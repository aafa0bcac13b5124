use Rattle.std.proofs.Common.{map}
use Rattle.std.specs.List.{flat_map}
use Rattle.c_tree.specs.Pieces.{piece_of}
use Rattle.c_check.specs.Used.{used_pieces}
use Rattle.c_check.proofs.Rest.{rest_at}
use Rattle.c_check.proofs.Using.{used_on, used_end, used-as, uses_at, pieces-flat}
use Rattle.c_check.proofs.used.note_pieces.Goals as goal

pub loop-piece-preserved : goal.loop-piece-preserved
loop-piece-preserved c =
    used_on uses_at c.args.used.now c.args.pieces.now c.loop-piece.piece-index c.loop-piece.used c.note_piece.new.used c.loop-piece.invariant c.piece-item.result
    (rest_at c.args.pieces.now c.loop-piece.piece-index c.piece-item.result c.loop-piece-test.true c.piece-item.is) c.in_ok-note_piece.ensures

pub returns : goal.returns
returns c =
    used-as c.args.used.now (flat_map uses_at c.args.pieces.now) (used_pieces (map piece_of c.args.pieces.now)) c.loop-piece.used (pieces-flat c.args.pieces.now)
    (used_end uses_at c.args.used.now c.args.pieces.now c.loop-piece.piece-index c.loop-piece.used c.loop-piece.invariant c.loop-piece-test.false)
