use Rattle.c_write.proofs.Words.{local_word}
use Rattle.c_write.proofs.Adding.{adds_both, from_anything}
use Rattle.c_write.proofs.statement.put_catch.Goals as goal

pub put_name-requires : goal.put_name-requires
put_name-requires c = local_word c.args.exit.now c.requires.0

pub put_name-requires-2 : goal.put_name-requires-2
put_name-requires-2 c = local_word c.args.carried.now c.requires.1

pub returns : goal.returns
returns c =
    adds_both c.in_ok-put_word.ensures (adds_both c.in_ok-put_mark.ensures (adds_both c.in_ok-put_name.ensures (adds_both c.in_ok-put_comma.ensures (adds_both c.in_ok-put_name-2.ensures (adds_both c.in_ok-put_mark-2.ensures (from_anything c.in_ok-open_block.ensures))))))
