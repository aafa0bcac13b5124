use Rattle.word_region.proofs.Joined.{added_more}
use Rattle.word_region.proofs.table.add_segments.Goals as goal

pub loop-preserved : goal.loop-preserved
loop-preserved c =
    added_more c.args.segments.now.items c.loop.segments.items c.push.new.self.items c.loop.counter c.in_ok-new.field-0 c.loop.invariant c.in_ok-new.ensures c.in_ok-push.ensures.items
