use Rattle.c_write.proofs.Lists.{listed_tokens, adds_more, listed_tokens-append, named_piece_at}
use Rattle.c_write.proofs.Adding.{adds_both}
use Rattle.c_write.proofs.piece.put_pieces.Goals as goal

pub put_piece-requires : goal.put_piece-requires
put_piece-requires c = named_piece_at c.args.pieces.now c.loop-piece.piece-index c.piece-item.result c.requires c.loop-piece-test.true c.piece-item.is

pub loop-piece-preserved : goal.loop-piece-preserved
loop-piece-preserved c = adds_more listed_tokens listed_tokens-append c.args.pieces.now c.loop-piece.piece-index c.piece-item.result c.loop-piece-test.true c.piece-item.is c.loop-piece.invariant (adds_both c.in_ok-put_indent.ensures c.in_ok-put_piece.ensures)
