-- The places of data, and data as plain trees without their places.
use Rattle.std.specs.Prelude.{ℕ, ◌+◌, max, ℤ, Bool, IsTrue, nat_lt, List, [], ◌∷◌}
use Rattle.std.specs.List.{list_all}
use Rattle.scheme_data.specs.Fixnum.{IsFixnum}
use Rattle.scheme_data.specs.Symbols.{IsSymbol}
use Rattle.scheme_data.specs.declared.datum.Place.{Place}
use Rattle.scheme_data.specs.declared.datum.Datum.{Datum, fold-Datum, out-Datum}
use Rattle.scheme_data.specs.declared.datum.Datum.TheOpen.{Datum-F}

abbrev pub layer_place : Datum-F Datum → Place
layer_place (Datum-F.Int at n) = at
layer_place (Datum-F.Chr at b) = at
layer_place (Datum-F.Bool at t) = at
layer_place (Datum-F.Unspec at) = at
layer_place (Datum-F.Str at text) = at
layer_place (Datum-F.Sym at name mark) = at
layer_place (Datum-F.List at ds) = at
layer_place (Datum-F.Dotted at ds tail) = at
layer_place (Datum-F.Vector at ds) = at

-- the place of a datum's first token
abbrev pub place_of : Datum → Place
place_of d = layer_place (out-Datum d)

mutual
  pub data Plain : Type 0 where
    Number : ℤ → Plain
    Character : ℕ → Plain
    Truth : Bool → Plain
    Unspecified : Plain
    String : List ℕ → Plain
    -- a name and its mark
    Symbol : List ℕ → ℕ → Plain
    Listed : Plains → Plain
    -- items and a tail
    Dotted : Plains → Plain → Plain
    Vector : Plains → Plain

  pub data Plains : Type 0 where
    none : Plains
    more : Plain → Plains → Plains

abbrev pub plains : List Plain → Plains
plains [] = none
plains (d ∷ ds) = more d (plains ds)

-- one layer, its parts being done
abbrev pub layer : Datum-F Plain → Plain
layer (Datum-F.Int at n) = Number n
layer (Datum-F.Chr at b) = Character b
layer (Datum-F.Bool at t) = Truth t
layer (Datum-F.Unspec at) = Unspecified
layer (Datum-F.Str at text) = String text
layer (Datum-F.Sym at name mark) = Symbol name mark
layer (Datum-F.List at ds) = Listed (plains ds)
layer (Datum-F.Dotted at ds tail) = Dotted (plains ds) tail
layer (Datum-F.Vector at ds) = Vector (plains ds)

abbrev pub plain : Datum → Plain
plain d = fold-Datum Plain layer d

abbrev pub plain_all : List Datum → Plains
plain_all [] = none
plain_all (d ∷ ds) = more (plain d) (plain_all ds)

-- how deep lists and vectors nest: an atom has 0, a list or vector one more than its deepest part
abbrev mutual
  pub nesting : Plain → ℕ
  nesting (Number n) = 0
  nesting (Character b) = 0
  nesting (Truth t) = 0
  nesting Unspecified = 0
  nesting (String text) = 0
  nesting (Symbol name mark) = 0
  nesting (Listed ds) = 1 + deepest ds
  nesting (Dotted ds tail) = 1 + max (deepest ds) (nesting tail)
  nesting (Vector ds) = 1 + deepest ds

  pub deepest : Plains → ℕ
  deepest none = 0
  deepest (more d ds) = max (nesting d) (deepest ds)

abbrev pub is_byte : ℕ → Bool
is_byte b = nat_lt b 256

-- a list has items
abbrev pub AreSome : Plains → Type 0
AreSome none = ⊥
AreSome (more d ds) = Unit {0}

-- what can end a dotted list: neither a list nor another dotted list, with which it would be one
abbrev pub IsTail : Plain → Type 0
IsTail (Listed ds) = ⊥
IsTail (Dotted ds tail) = ⊥
IsTail d = Unit {0}

-- Numbers are fixnums, symbols have a symbol's bytes, characters and the parts of strings are bytes,
-- and a dotted list has items and a tail that is no list.
abbrev mutual
  pub IsProper : Plain → Type 0
  IsProper (Number n) = IsFixnum n
  IsProper (Character b) = IsTrue (is_byte b)
  IsProper (Truth t) = Unit {0}
  IsProper Unspecified = Unit {0}
  IsProper (String text) = IsTrue (list_all is_byte text)
  IsProper (Symbol name mark) = IsSymbol name
  IsProper (Listed ds) = AreProper ds
  IsProper (Dotted ds tail) = AreSome ds × AreProper ds × IsTail tail × IsProper tail
  IsProper (Vector ds) = AreProper ds

  pub AreProper : Plains → Type 0
  AreProper none = Unit {0}
  AreProper (more d ds) = IsProper d × AreProper ds
