use Rattle.region_times.proofs.Kept.{HasPairs-push}
use Rattle.region_times.proofs.walks.make_pairs.Goals as goal

pub loop-preserved : goal.loop-preserved
loop-preserved c = rw c.in_ok-alloc.ensures.blocks (HasPairs-push _ _ c.loop.invariant)
