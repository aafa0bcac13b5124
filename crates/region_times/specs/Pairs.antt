-- Blocks that are all pairs.
use Rattle.std.specs.Prelude.{◌≡◌, ℕ, List, [], ◌∷◌, length}

-- each block has two words
abbrev pub ArePairs : List (List ℕ) → Type 0
ArePairs [] = Unit {0}
ArePairs (block ∷ blocks) = (length block ≡ 2) × ArePairs blocks

-- so many blocks, each of two words
pub record HasPairs (count : ℕ) (blocks : List (List ℕ)) : Type 0 where
  pub count_is : length blocks ≡ count
  pub are_pairs : ArePairs blocks
