use Rattle.c_write.proofs.Adding.{adds_both, from_anything}
use Rattle.c_write.proofs.put.begin_block.Goals as goal

pub returns : goal.returns
returns c =
    from_anything (adds_both c.in_ok-put_mark.ensures (from_anything c.in_ok-put_line_end.ensures))
