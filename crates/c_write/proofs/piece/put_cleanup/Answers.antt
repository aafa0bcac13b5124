use Rattle.c_write.proofs.Adding.{adds_both, from_anything}
use Rattle.c_write.proofs.piece.put_cleanup.Goals as goal

pub returns : goal.returns
returns c = from_anything (adds_both c.in_ok-put_mark.ensures (from_anything c.in_ok-open_block.ensures))
