-- How a region lies in memory: all words one after another, and where each block starts among them.
use Rattle.std.specs.Prelude.{◌≡◌, ℕ, zero, suc, ◌+◌, ◌^◌, ◌<◌, ◌≤◌, List, [], ◌∷◌, ◌++◌, length, get_or, take, drop, nat_lt, if◌then◌else◌}

-- each segment has so many words
abbrev pub AreFull : ℕ → List (List ℕ) → Type 0
AreFull size [] = Unit {0}
AreFull size (s ∷ ss) = (length s ≡ size) × AreFull size ss

-- the first n blocks, of which the last ends at a place
unfoldable pub blocks_of : List ℕ → List ℕ → ℕ → ℕ → List (List ℕ)
blocks_of words starts zero end = []
blocks_of words starts (suc n) end = blocks_of words starts n (get_or starts n 0) ++ drop (get_or starts n 0) (take end words) ∷ []

-- the first block starts at 0 and each later one where the one before ends, and a size has 32 bits
unfoldable pub IsLaid : List ℕ → ℕ → ℕ → Type 0
IsLaid starts zero end = end ≡ 0
IsLaid starts (suc n) end = (get_or starts n 0 ≤ end) × (end < get_or starts n 0 + 4294967296) × IsLaid starts n (get_or starts n 0)

-- where the first so many of n blocks end
unfoldable pub end_of_first : List ℕ → ℕ → ℕ → ℕ → ℕ
end_of_first starts n end count = if nat_lt count n then get_or starts count 0 else end

-- the words and starts have an entry for each word, for each block, and for each word that is spare
pub record IsSound (words starts : List ℕ) (live used spare : ℕ) : Type 0 where
  pub laid : IsLaid starts live used
  pub words_fit : length words ≡ used + live + spare
  pub starts_fit : length starts ≡ used + live + spare
  pub bounded : used + live + spare < 2 ^ 60
