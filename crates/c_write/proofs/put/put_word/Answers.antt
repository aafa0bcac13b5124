use Rattle.c_write.proofs.Adding.{word_adds}
use Rattle.c_write.proofs.put.put_word.Goals as goal

pub returns : goal.returns
returns c = word_adds c.args.out.now c.extend.new.self c.args.word.now c.requires c.in_ok-extend.ensures.ok
