use Rattle.c_write.proofs.Adding.{adds_both}
use Rattle.c_write.proofs.statement.put_protect.Goals as goal

pub returns : goal.returns
returns c = adds_both c.in_ok-put_word.ensures c.in_ok-open_block.ensures
