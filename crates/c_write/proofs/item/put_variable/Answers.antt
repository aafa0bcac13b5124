use Rattle.c_write.proofs.Words.{local_word}
use Rattle.c_write.proofs.Adding.{adds_both}
use Rattle.c_write.proofs.item.put_variable.Goals as goal

pub returns : goal.returns
returns c =
    adds_both c.in_ok-put_type.ensures (adds_both c.in_ok-put_space.ensures c.in_ok-put_name.ensures)

pub put_name-requires : goal.put_name-requires
put_name-requires c = local_word c.args.variable.now.name c.requires
