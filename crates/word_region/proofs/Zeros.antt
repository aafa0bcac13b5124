-- What a new block has.
use Rattle.std.proofs.Common.{◌≡◌, ℕ, length, get_or, replicate, inl, inr, arith}
use Rattle.std.proofs.lemmas.List.{length-replicate, get_or-replicate, get_or_past}
use Rattle.std.proofs.lemmas.Bool.{cases_lt}
use Rattle.word_region.specs.Regions.{zeros}

pub length-zeros : (n : ℕ) → length (zeros n) ≡ n
unfolding zeros
length-zeros n = length-replicate {A = ℕ} n 0

pub get_or-zeros : (n i : ℕ) → get_or (zeros n) i 0 ≡ 0
unfolding zeros
get_or-zeros n i =
    elim (cases_lt i n) [
      | inl l ↦ get_or-replicate n i 0 0 l
      | inr l ↦ get_or_past (replicate n 0) i 0 (omega (arith, length-replicate {A = ℕ} n 0))
    ]
