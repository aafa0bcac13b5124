-- Symbols in binding places: `x::t` is the name x with the type t (the Bigloo manual's typed identifiers).
use Rattle.std.specs.Prelude.{ℕ, Bool, false, if◌then◌else◌, ◌&&◌, nat_eq, List, [], ◌∷◌, drop, codes, is_some, Option, Some, None}
use Rattle.std.specs.List.{list_any}
use Rattle.scheme_data.specs.Names.{is_same}
use Rattle.scheme_data.specs.Symbols.{begins_as_symbol}

-- a name, and the word of its type if one is written
pub record Typed : Type 0 where
  pub name : List ℕ
  pub ty : Option (List ℕ)

abbrev pub begins_type : List ℕ → Bool
begins_type [] = false
begins_type (b ∷ []) = false
begins_type (b ∷ c ∷ bs) = nat_eq b 58 && nat_eq c 58

-- what stands before the first `::`, and behind it
pub record Split : Type 0 where
  pub before : List ℕ
  pub behind : List ℕ

abbrev pub one_before : ℕ → Option Split → Option Split
one_before b None = None
one_before b (Some s) = Some (record { before = b ∷ s.before; behind = s.behind })

abbrev pub split : List ℕ → Option Split
split [] = None
split (b ∷ bs) = if begins_type (b ∷ bs) then Some (record { before = []; behind = drop 1 bs }) else one_before b (split bs)

abbrev pub has_type : List ℕ → Bool
has_type x = is_some (split x)

abbrev pub type_words : List (List ℕ)
type_words = codes "obj" ∷ codes "long" ∷ codes "char" ∷ codes "bool" ∷ codes "pair" ∷ codes "vector" ∷ codes "bstring" ∷ codes "symbol" ∷ codes "procedure" ∷ []

abbrev pub is_type_word : List ℕ → Bool
is_type_word t = list_any (is_same t) type_words

-- what stands before the first `::` is a symbol itself, and what stands behind it is the word of a type
abbrev pub of_split : List ℕ → Option Split → Option Typed
of_split x None = Some (record { name = x; ty = None })
of_split x (Some s) = if begins_as_symbol s.before && is_type_word s.behind then Some (record { name = s.before; ty = Some s.behind }) else None

-- a symbol in a binding place; none where its type is no type or its name no symbol
abbrev pub typed : List ℕ → Option Typed
typed x = of_split x (split x)
