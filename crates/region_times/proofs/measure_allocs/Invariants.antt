use Rattle.std.proofs.Common.{◌≡◌, [], vec_len}
use Rattle.region_times.proofs.measure_allocs.Given as goal

abbrev pub invariant-loop : goal.invariant-loop
invariant-loop g l = (l.region.blocks ≡ []) × (vec_len l.words ≡ 0)
