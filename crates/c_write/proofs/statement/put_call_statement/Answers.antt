use Rattle.c_write.proofs.Adding.{adds_both}
use Rattle.c_write.proofs.statement.put_call_statement.Goals as goal

pub returns : goal.returns
returns c =
    adds_both c.in_ok-put_call.ensures c.in_ok-put_end.ensures
