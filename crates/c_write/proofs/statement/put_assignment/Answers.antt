use Rattle.c_write.proofs.Adding.{adds_both, from_anything}
use Rattle.c_write.proofs.statement.put_assignment.Goals as goal

pub returns : goal.returns
returns c =
    adds_both c.in_ok-put_variable.ensures (adds_both c.in_ok-put_space.ensures (adds_both (from_anything c.in_ok-put_mark.ensures) (adds_both (from_anything c.in_ok-put_space-2.ensures) (adds_both c.in_ok-put_expr.ensures c.in_ok-put_end.ensures))))
