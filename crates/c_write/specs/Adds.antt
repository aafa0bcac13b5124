-- What is added to a text, token by token.
use Rattle.std.specs.Prelude.{◌≡◌, ℕ, List, [], ◌∷◌, ◌++◌, nat_eq, Bool, true, false, ◌&&◌, ◌||◌, not, IsTrue}
use Rattle.std.specs.List.{list_all}
use Rattle.c_tree.specs.Lexical.{Token, tokens, is_word_byte}

-- what may follow a text: anything, or only what stands apart, since a word would go on
pub data Follow : Type 0 where
  anything : Follow
  apart : Follow

abbrev pub begins_apart : List ℕ → Bool
begins_apart [] = true
begins_apart (b ∷ bs) = not (is_word_byte b)

abbrev pub MayFollow : Follow → List ℕ → Type 0
MayFollow anything rest = Unit {0}
MayFollow apart rest = IsTrue (begins_apart rest)

-- the tokens of the text, in front of those of what may follow
pub record Ends (follow : Follow) (text : List ℕ) (front : List Token → List Token) : Type 0 where
  pub holds : (rest : List ℕ) → MayFollow follow rest → tokens (text ++ rest) ≡ front (tokens rest)

-- what was added to the old text has these tokens in front of others
pub record Adds (before after : Follow) (old new : List ℕ) (added : List Token → List Token) : Type 0 where
  pub holds : (front : List Token → List Token) → Ends before old front → Ends after new (λ ts. front (added ts))

abbrev pub is_run : List ℕ → Bool
is_run [] = false
is_run (b ∷ bs) = is_word_byte b && list_all is_word_byte bs

-- a run of letters, digits and `_`, or a minus sign and one
abbrev pub is_word : List ℕ → Bool
is_word [] = false
is_word (b ∷ bs) = is_run (b ∷ bs) || (nat_eq b 45 && is_run bs)
