use Rattle.c_write.proofs.Adding.{adds_both}
use Rattle.c_write.proofs.statement.put_return.Goals as goal

pub returns : goal.returns
returns c =
    adds_both c.in_ok-put_word.ensures (adds_both c.in_ok-put_space.ensures (adds_both c.in_ok-put_expr.ensures c.in_ok-put_end.ensures))
