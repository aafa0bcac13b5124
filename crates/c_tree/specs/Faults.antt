-- Where a text is no C text: at its first token with which no tokens complete it, or at its end.
use Rattle.std.specs.Prelude.{◌≡◌, ℕ, List, [], ◌∷◌, ◌++◌, ◌⊎◌, map}
use Rattle.scheme_data.specs.declared.datum.Place.{Place}
use Rattle.scheme_data.specs.Places.{end}
use Rattle.c_tree.specs.Code.{Item}
use Rattle.c_tree.specs.Lexical.{Token, Placed, placed_tokens}
use Rattle.c_tree.specs.Spelling.{items_tokens, NamedItems}

-- the tokens are those of these items
pub record Spelled (ts : List Token) (items : List Item) : Type 0 where
  pub spelled : ts ≡ items_tokens items []
  pub named : NamedItems items

-- some list of tokens completes these
pub record IsViable (ts : List Token) : Type 0 where
  pub others : List Token
  pub items : List Item
  pub spelled : Spelled (ts ++ others) items

abbrev pub tokens_of : List Placed → List Token
tokens_of ts = map (λ t. t.token) ts

-- here stands the first token with which no list of tokens completes those so far
pub record IsWrongAt (ts : List Placed) (at : Place) : Type 0 where
  pub front : List Placed
  pub wrong : Placed
  pub rest : List Placed
  pub split : ts ≡ front ++ wrong ∷ rest
  pub viable : IsViable (tokens_of front)
  pub stuck : IsViable (tokens_of front ++ wrong.token ∷ []) → ⊥
  pub place : at ≡ wrong.at

-- tokens that spell no items, and that others complete
pub record IsShort (ts : List Token) : Type 0 where
  pub viable : IsViable ts
  pub unread : (items : List Item) → Spelled ts items → ⊥

-- the bytes are no C text: at the first wrong token, or behind the last byte
abbrev pub IsBadAt : List ℕ → Place → Type 0
IsBadAt bytes at = IsWrongAt (placed_tokens bytes) at ⊎ (IsShort (tokens_of (placed_tokens bytes)) × (at ≡ end bytes))
