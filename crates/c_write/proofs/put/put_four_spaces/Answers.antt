use Rattle.c_write.proofs.Adding.{indent_adds}
use Rattle.c_write.proofs.put.put_four_spaces.Goals as goal

pub returns : goal.returns
returns c = indent_adds c.args.out.now c.extend.new.self c.in_ok-extend.ensures.ok
