use Rattle.std.proofs.Common.{◌≡◌, ◌*◌, vec_len}
use Rattle.region_times.proofs.walks.push_pairs.Given as goal

abbrev pub invariant-loop : goal.invariant-loop
invariant-loop l = vec_len l.words ≡ 3 * l.counter
