use Rattle.c_write.specs.Adds.{anything}
use Rattle.c_write.proofs.Adding.{adds_both, adds_none, from_anything}
use Rattle.c_write.proofs.put.put_indent.Goals as goal

pub loop-init : goal.loop-init
loop-init c = adds_none anything c.args.out.now

pub loop-preserved : goal.loop-preserved
loop-preserved c = adds_both c.loop.invariant (from_anything c.in_ok-put_four_spaces.ensures)
