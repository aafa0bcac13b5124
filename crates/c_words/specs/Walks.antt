-- A walk over the bytes of a word: the whole word, and what of it is left.
use Rattle.std.specs.Prelude.{◌≡◌, ℕ, ◌+◌, ◌≤◌, List, [], ◌∷◌, drop, length, Option, Some, None, refl}
use Rattle.std.specs.List.{prefix_len, take_while}
use Rattle.std.specs.Coded.{Coded, code_by, coded_list, coded_ℕ, coded×}
use Rattle.c_tree.specs.Lexical.{is_word_byte}

pub record Walk : Type 0 where
  pub whole : List ℕ
  pub left : List ℕ

abbrev pub coded_walk : Coded Walk
coded_walk = code_by (List ℕ × List ℕ) (coded× (coded_list coded_ℕ) (coded_list coded_ℕ)) (λ w. (w.whole, w.left)) (λ p. record { whole = p.0; left = p.1 }) (λ _. refl)

abbrev pub begun : List ℕ → Walk
begun word = record { whole = word; left = word }

abbrev pub stepped : Walk → Walk
stepped w = record { whole = w.whole; left = drop 1 w.left }

abbrev pub ended : Walk → Walk
ended w = record { whole = w.whole; left = [] }

-- over the word at the front of a text, at a place
abbrev pub walk_of : List ℕ → ℕ → Walk
walk_of text place = record { whole = take_while is_word_byte text; left = take_while is_word_byte (drop place text) }

abbrev pub first : List ℕ → Option ℕ
first [] = None
first (b ∷ bs) = Some b

-- a place in the word at the front of a text, or right behind it, and the byte of the word that stands there
abbrev pub IsAt : List ℕ → ℕ → Option ℕ → Type 0
IsAt text place next =
    (place + prefix_len is_word_byte (drop place text) ≡ prefix_len is_word_byte text)
    × (place ≤ length text)
    × (next ≡ first (take_while is_word_byte (drop place text)))
