-- What tables of names hold, as the lists of what they were made of.
use Rattle.std.specs.Prelude.{◌≡◌, ℕ, List, [], ◌∷◌, map, find, Bool, if◌then◌else◌, Option, Some}
use Rattle.std.specs.Borrow.{Bor}
use Rattle.std.specs.Cmp.Lexicographic.{slice_cmp}
use Rattle.std.specs.Ordering.{nat_cmp, eq_by_cmp}
use Rattle.std.specs.Map.{lookup}
use Rattle.std.specs.Option.{option_map}
use Rattle.name_table.specs.Names.{has_name}
use Rattle.iface_text.specs.declared.interface.Row.{Row}
use Rattle.iface_text.specs.Format.{IfaceTree}
use Rattle.resolver.specs.BuiltHeads.{ImportTree, is_word}
use Rattle.resolver.specs.Elaboration.{row_for}

-- a name as a key
abbrev pub Key : Type 0
Key = Bor (List ℕ)

abbrev pub is_key : List ℕ → Key → Bool
is_key name k = eq_by_cmp (slice_cmp nat_cmp) name k.now

-- Interfaces --------------------------------------------------------------------------------

-- of two rows of one name the first counts
abbrev pub row_named : List Row → List ℕ → Option Row
row_named rows name = find (λ r. is_word r.name name) rows

-- both have the same row for each name
abbrev pub HaveSameRows : List Row → List Row → Type 0
HaveSameRows rows others = (name : List ℕ) → row_named rows name ≡ row_named others name

abbrev pub rows_of : List (Key × Bor Row) → List Row
rows_of es = map (λ e. e.1.now) es

-- each row has its own name as its key
abbrev pub AreNamed : List (Key × Bor Row) → Type 0
AreNamed [] = Unit {0}
AreNamed (e ∷ es) = (e.0.now ≡ e.1.now.name) × AreNamed es

abbrev pub ifaces_of : List (Key × List Row) → List IfaceTree
ifaces_of es = map (λ e. record { module_name = e.0.now; rows = e.1 }) es

-- both have the same row for each name of each module
abbrev pub OfferSameRows : List IfaceTree → List IfaceTree → Type 0
OfferSameRows is js = (m name : List ℕ) → row_for is m name ≡ row_for js m name

-- Imports -----------------------------------------------------------------------------------

abbrev pub module_at : List (Key × Bor (List ℕ)) → List ℕ → Option (List ℕ)
module_at es name = option_map (λ m. m.now) (lookup (is_key name) es)

-- the module of the first item that has a name
abbrev pub module_offering : List ImportTree → List ℕ → Option (List ℕ)
module_offering is name = option_map (λ i. i.module_name) (find (λ i. has_name i.names name) is)

-- the table has the module of the first item for each name
abbrev pub HasModules : List (Key × Bor (List ℕ)) → List ImportTree → Type 0
HasModules es is = (name : List ℕ) → module_at es name ≡ module_offering is name

-- each name of an item has got its module, and every other name has the one that it had
abbrev pub TakesItem : List (Key × Bor (List ℕ)) → List (Key × Bor (List ℕ)) → ImportTree → Type 0
TakesItem old new i = (name : List ℕ) → module_at new name ≡ (if has_name i.names name then Some i.module_name else module_at old name)
