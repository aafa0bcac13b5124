use Rattle.std.proofs.Common.{refl}
use Rattle.c_write.proofs.Adding.{gap_adds}
use Rattle.c_write.proofs.put.put_space.Goals as goal

pub returns : goal.returns
returns c = gap_adds c.args.out.now c.push.new.self 32 refl c.in_ok-push.ensures.ok
