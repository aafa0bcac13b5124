use Rattle.c_write.proofs.Words.{function_word}
use Rattle.c_write.proofs.Adding.{adds_both}
use Rattle.c_write.proofs.item.put_head.Goals as goal

pub returns : goal.returns
returns c =
    adds_both c.in_ok-put_type.ensures (adds_both c.in_ok-put_space.ensures (adds_both c.in_ok-put_name.ensures c.in_ok-put_mark.ensures))

pub put_name-requires : goal.put_name-requires
put_name-requires c = function_word c.args.name.now c.requires
