use Rattle.region_times.specs.Pairs.{HasPairs}
use Rattle.region_times.proofs.measure_scattered.Given as goal

abbrev pub invariant-loop-round : goal.invariant-loop-round
invariant-loop-round g l = HasPairs 4194304 l.region.blocks
