use Rattle.std.proofs.Common.{arith}
use Rattle.word_region.proofs.Joined.{cleared_none, cleared_more}
use Rattle.word_region.proofs.table.Table.clear.Goals as goal

pub loop-k-init : goal.loop-k-init
loop-k-init c = cleared_none c.args.self.now c.args.from

pub loop-k-preserved : goal.loop-k-preserved
loop-k-preserved c =
    cleared_more c.args.self.now c.loop-k.self c.set.new.self c.args.from c.loop-k.k (omega arith) c.loop-k.invariant c.set.ensures
