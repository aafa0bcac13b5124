use Rattle.c_write.proofs.Words.{target_word}
use Rattle.c_write.proofs.Adding.{adds_both}
use Rattle.c_write.proofs.statement.put_goto.Goals as goal

pub put_name-requires : goal.put_name-requires
put_name-requires c = target_word c.args.label.now c.requires

pub returns : goal.returns
returns c =
    adds_both c.in_ok-put_word.ensures (adds_both c.in_ok-put_space.ensures (adds_both c.in_ok-put_name.ensures c.in_ok-put_end.ensures))
