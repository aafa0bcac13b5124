use Rattle.region_times.specs.Pairs.{HasPairs}
use Rattle.region_times.proofs.walks.make_pairs.Given as goal

abbrev pub invariant-loop : goal.invariant-loop
invariant-loop l = HasPairs l.counter l.region.blocks
