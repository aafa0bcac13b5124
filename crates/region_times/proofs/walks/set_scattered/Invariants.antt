use Rattle.region_times.specs.Pairs.{HasPairs}
use Rattle.region_times.proofs.walks.set_scattered.Given as goal

abbrev pub invariant-loop-k : goal.invariant-loop-k
invariant-loop-k l = HasPairs 4194304 l.region.blocks
