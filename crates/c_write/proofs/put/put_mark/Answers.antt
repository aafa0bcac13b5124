use Rattle.c_write.proofs.Adding.{mark_adds}
use Rattle.c_write.proofs.put.put_mark.Goals as goal

pub returns : goal.returns
returns c = mark_adds c.args.out.now c.push.new.self c.args.mark c.requires c.in_ok-push.ensures.ok
