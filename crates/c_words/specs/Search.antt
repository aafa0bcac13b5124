-- A search by prefix in a table that stands in the order of its names. What stands behind the first bytes of a name, `depth` of them, is compared alone.
use Rattle.std.specs.Prelude.{ℕ, List, [], ◌∷◌, drop, find, nat_lt, nat_eq, Bool, true, false, ◌&&◌, ◌||◌, Option}
use Rattle.std.specs.List.{list_all, filter}
use Rattle.scheme_data.specs.Names.{is_same}
use Rattle.c_tree.specs.Names.{begins_with}

-- before another text in the order of bytes, or the same
abbrev pub is_not_after : List ℕ → List ℕ → Bool
is_not_after [] ys = true
is_not_after (x ∷ xs) [] = false
is_not_after (x ∷ xs) (y ∷ ys) = nat_lt x y || (nat_eq x y && is_not_after xs ys)

-- of a text with a lower first byte, or none
abbrev pub begins_below : ℕ → List ℕ → Bool
begins_below byte [] = true
begins_below byte (x ∷ xs) = nat_lt x byte

abbrev pub behind : {T : Type 0} → (T → List ℕ) → ℕ → T → List ℕ
behind spelled depth row = drop depth (spelled row)

abbrev pub precedes_all : {T : Type 0} → (T → List ℕ) → ℕ → T → List T → Bool
precedes_all spelled depth row rows = list_all (λ other. is_not_after (behind spelled depth row) (behind spelled depth other)) rows

abbrev pub are_in_order : {T : Type 0} → (T → List ℕ) → ℕ → List T → Bool
are_in_order spelled depth [] = true
are_in_order spelled depth (row ∷ rows) = precedes_all spelled depth row rows && are_in_order spelled depth rows

-- those that go on with a byte
abbrev pub that_go_on : {T : Type 0} → (T → List ℕ) → ℕ → ℕ → List T → List T
that_go_on spelled depth byte rows = filter (λ row. begins_with byte (behind spelled depth row)) rows

-- the one behind whose first bytes just these stand
unfoldable pub with_rest : {T : Type 0} → (T → List ℕ) → ℕ → List ℕ → List T → Option T
with_rest spelled depth rest rows = find (λ row. is_same rest (behind spelled depth row)) rows
