use Rattle.c_write.proofs.Words.{label_word}
use Rattle.c_write.proofs.Adding.{adds_both, from_anything}
use Rattle.c_write.proofs.statement.put_loop.Goals as goal

pub put_name-requires : goal.put_name-requires
put_name-requires c = label_word c.args.label.now c.requires

pub returns : goal.returns
returns c =
    adds_both c.in_ok-put_name.ensures (adds_both c.in_ok-put_mark.ensures (adds_both (from_anything c.in_ok-put_space.ensures) c.in_ok-put_for.ensures))
