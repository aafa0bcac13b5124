use Rattle.c_write.proofs.Adding.{adds_both}
use Rattle.c_write.proofs.item.put_external.Goals as goal

pub returns : goal.returns
returns c =
    adds_both c.in_ok-put_word.ensures (adds_both c.in_ok-put_space.ensures c.in_ok-put_global.ensures)
