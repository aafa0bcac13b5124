-- A region as its live blocks, each the list of its words, and how many words it can take before it grows.
use Rattle.std.specs.Prelude.{◌≡◌, ℕ, ◌+◌, ◌*◌, ◌/◌, List, [], Option, Some, None, length, get_or, set, take, replicate, nat_lt, if◌then◌else◌}
use Rattle.std.specs.List.{sum_by}

pub record Contents : Type 0 where
  pub blocks : List (List ℕ)
  pub spare : ℕ

-- so many zeros
unfoldable pub zeros : ℕ → List ℕ
zeros n = replicate n 0

-- the block at a place
abbrev pub block_at : List (List ℕ) → ℕ → List ℕ
block_at blocks b = get_or blocks b []

-- a word of a block
abbrev pub word_at : List (List ℕ) → ℕ → ℕ → ℕ
word_at blocks b i = get_or (get_or blocks b []) i 0

-- the blocks after a change of one word
abbrev pub with_word : List (List ℕ) → ℕ → ℕ → ℕ → List (List ℕ)
with_word blocks b i word = set blocks b (set (get_or blocks b []) i word)

-- the size of the block at a place, where there is one
abbrev pub size_of : List (List ℕ) → ℕ → Option ℕ
size_of blocks b = if nat_lt b (length blocks) then Some (length (get_or blocks b [])) else None

-- what blocks take: each one more than its size
unfoldable pub taken : List (List ℕ) → ℕ
taken blocks = sum_by (λ block. length block + 1) blocks

-- where a block starts among the words of all: after the sizes of those before it
unfoldable pub start_of : List (List ℕ) → ℕ → ℕ
start_of blocks b = sum_by length (take b blocks)

-- what the fewest segments have that hold so many
abbrev pub whole_segments : ℕ → ℕ
whole_segments n = 65536 * ((n + 65535) / 65536)

-- a segment is there, and has a word at a place
abbrev pub HasWord : Option (List ℕ) → ℕ → ℕ → Type 0
HasWord None at word = ⊥
HasWord (Some segment) at word = get_or segment at 0 ≡ word
