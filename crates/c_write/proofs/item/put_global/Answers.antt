use Rattle.c_write.proofs.Words.{global_word}
use Rattle.c_write.proofs.Adding.{adds_both}
use Rattle.c_write.proofs.item.put_global.Goals as goal

pub put_name-requires : goal.put_name-requires
put_name-requires c = global_word c.args.variable.now.name c.requires

pub returns : goal.returns
returns c =
    adds_both c.in_ok-put_type.ensures (adds_both c.in_ok-put_space.ensures (adds_both c.in_ok-put_name.ensures c.in_ok-put_end.ensures))
