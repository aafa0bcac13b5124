-- A name with a mark as one list of bytes: those of the name, and then four of the mark.
use Rattle.std.specs.Prelude.{◌≡◌, ℕ, cond, ◌+◌, ◌-◌, List, [], ◌∷◌, ◌++◌, length, map, take, drop, get_or, Option, None, Some}
use Rattle.std.specs.Int.{w32, to_be_bytes, from_be_bytes}
use Rattle.name_table.specs.Names.{place_of}
use Rattle.scheme_data.specs.Names.{is_same}

abbrev pub key_of : List ℕ → ℕ → List ℕ
key_of x m = x ++ to_be_bytes w32 m

-- the name and the mark of which it is the key
abbrev pub of_key : List ℕ → List ℕ × ℕ
of_key k = (take (length k - 4) k, from_be_bytes w32 (drop (length k - 4) k))

-- each of them is the key of a name with a mark
abbrev pub AreKeys : List (List ℕ) → Type 0
AreKeys ks = map (λ k. key_of (of_key k).0 (of_key k).1) ks ≡ ks

-- how often a name stands among these
abbrev pub occurrences : List ℕ → List (List ℕ) → ℕ
occurrences k [] = 0
occurrences k (x ∷ xs) = cond (is_same k x) 1 0 + occurrences k xs

abbrev pub count_at : List ℕ → Option ℕ → ℕ
count_at counts None = 0
count_at counts (Some p) = get_or counts p 0

-- how often a name is counted, by its place among the keys
abbrev pub count_of : List (List ℕ) → List ℕ → List ℕ → ℕ
count_of keys counts k = count_at counts (place_of k keys)
