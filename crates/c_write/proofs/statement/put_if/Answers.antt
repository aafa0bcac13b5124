use Rattle.c_write.proofs.Adding.{adds_both, from_anything}
use Rattle.c_write.proofs.statement.put_if.Goals as goal

pub returns : goal.returns
returns c =
    adds_both c.in_ok-put_word.ensures (adds_both c.in_ok-put_space.ensures (adds_both (from_anything c.in_ok-put_mark.ensures) (adds_both c.in_ok-put_expr.ensures (adds_both c.in_ok-put_mark-2.ensures (from_anything c.in_ok-open_block.ensures)))))
