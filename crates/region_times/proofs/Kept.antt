-- What keeps blocks pairs.
use Rattle.std.proofs.Common.{◌≡◌, ℕ, zero, suc, ◌+◌, ◌<◌, List, [], ◌∷◌, ◌++◌, length, get_or, set, ◌∙◌, arith}
use Rattle.std.proofs.lemmas.List.{length-append, length-set}
use Rattle.word_region.specs.Regions.{block_at, with_word, zeros}
use Rattle.word_region.proofs.Zeros.{length-zeros}
use Rattle.region_times.specs.Pairs.{ArePairs, HasPairs}

ArePairs-at : (blocks : List (List ℕ)) (b : ℕ) → ArePairs blocks → b < length blocks → length (get_or blocks b []) ≡ 2
ArePairs-at [] b h l = absurd (omega arith)
ArePairs-at (block ∷ blocks) zero h l = h.0
ArePairs-at (block ∷ blocks) (suc b) h l = ArePairs-at blocks b h.1 (omega arith)

ArePairs-push : (blocks : List (List ℕ)) (block : List ℕ) → ArePairs blocks → length block ≡ 2 → ArePairs (blocks ++ block ∷ [])
ArePairs-push [] block h e = (e, tt)
ArePairs-push (first ∷ blocks) block h e = (h.0, ArePairs-push blocks block h.1 e)

ArePairs-set : (blocks : List (List ℕ)) (b i word : ℕ) → ArePairs blocks → ArePairs (with_word blocks b i word)
ArePairs-set [] b i word h = tt
ArePairs-set (block ∷ blocks) zero i word h = (length-set block i word ∙ h.0, h.1)
ArePairs-set (block ∷ blocks) (suc b) i word h = (h.0, ArePairs-set blocks b i word h.1)

-- a word of one of so many pairs
pub within_pair : (count : ℕ) (blocks : List (List ℕ)) (b i : ℕ) → HasPairs count blocks → b < count → i < 2 → i < length (block_at blocks b)
within_pair count blocks b i h l within =
    let e : length blocks ≡ count = h.count_is in
    let p : length (block_at blocks b) ≡ 2 = ArePairs-at blocks b h.are_pairs (omega arith) in
    omega arith

pub HasPairs-push : (count : ℕ) (blocks : List (List ℕ)) → HasPairs count blocks → HasPairs (count + 1) (blocks ++ zeros 2 ∷ [])
HasPairs-push count blocks h = record {
  count_is = let e : length blocks ≡ count = h.count_is in omega (arith, length-append blocks (zeros 2 ∷ []));
  are_pairs = ArePairs-push blocks (zeros 2) h.are_pairs (length-zeros 2);
}

pub HasPairs-set : (count : ℕ) (blocks : List (List ℕ)) (b i word : ℕ) → HasPairs count blocks → HasPairs count (with_word blocks b i word)
HasPairs-set count blocks b i word h = record {
  count_is = length-set blocks b (set (get_or blocks b []) i word) ∙ h.count_is;
  are_pairs = ArePairs-set blocks b i word h.are_pairs;
}
