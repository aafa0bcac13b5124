-- Names that tell their places by the numbers at their ends.
use Rattle.std.specs.Prelude.{◌≡◌, ℕ, ◌+◌, ◌-◌, ◌*◌, ◌%◌, nat_le, nat_lt, List, [], ◌∷◌, length, ◌&&◌, if◌then◌else◌, Some, slice_get}
use Rattle.std.proofs.Common.{Fits, w64}

-- a digit behind a number; all else begins anew
abbrev pub with_digit : ℕ → ℕ → ℕ
with_digit n byte = if nat_le 48 byte && nat_lt byte 58 then n % 65536 * 10 + (byte - 48) else 0

abbrev pub hint_from : ℕ → List ℕ → ℕ
hint_from n [] = n
hint_from n (b ∷ bs) = hint_from (with_digit n b) bs

abbrev pub hint_of : List ℕ → ℕ
hint_of name = hint_from 0 name

-- each stands at the place that it tells
abbrev pub AreHinted : List (List ℕ) → Type 0
AreHinted names = (i : ℕ) (name : List ℕ) → slice_get names i ≡ Some name → hint_of name ≡ i

pub record AreCounted (numbered others : List (List ℕ)) (len : ℕ) : Type 0 where
  pub hinted : AreHinted numbered
  pub count : len ≡ length numbered + length others
  pub fits : Fits w64 len
