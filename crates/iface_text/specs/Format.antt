-- The text of an interface, a format of this project's own: a line for each function that a module exports.
use Rattle.std.specs.Prelude.{◌≡◌, ℕ, List, [], ◌∷◌, ◌++◌, map, codes, false}
use Rattle.scheme_data.specs.Symbols.{IsSymbol}
use Rattle.built_table.specs.declared.primitives.Ty.{Ty}
use Rattle.built_table.specs.declared.primitives.Ty.TheVariants.{Obj}
use Rattle.built_table.specs.Table.{type_name}
use Rattle.name_table.specs.Names.{has_name}
use Rattle.iface_text.specs.declared.interface.Iface.{Iface}
use Rattle.iface_text.specs.declared.interface.Row.{Row}
use Rattle.iface_text.specs.declared.interface.RowKind.{RowKind}
use Rattle.iface_text.specs.declared.interface.RowKind.TheVariants.{Fun}

pub record IfaceTree : Type 0 where
  pub module_name : List ℕ
  pub rows : List Row

abbrev pub iface_tree : Iface → IfaceTree
iface_tree i = record { module_name = i.module_name; rows = i.rows }

-- Lines -------------------------------------------------------------------------------------

-- types, with a blank before each
abbrev pub more_types : List Ty → List ℕ
more_types [] = []
more_types (t ∷ ts) = 32 ∷ (type_name t ++ more_types ts)

-- types, with a blank between two
abbrev pub types_text : List Ty → List ℕ
types_text [] = []
types_text (t ∷ ts) = type_name t ++ more_types ts

-- ` (TYPE ...) TYPE`
abbrev pub signature : List Ty → Ty → List ℕ
signature params gives = codes " (" ++ (types_text params ++ (codes ") " ++ type_name gives))

abbrev pub kind_text : RowKind → List ℕ
kind_text (Fun params gives) = signature params gives

-- `fun NAME (TYPE ...) TYPE`
abbrev pub row_line : Row → List ℕ
row_line r = codes "fun " ++ (r.name ++ kind_text r.kind)

abbrev pub version_line : List ℕ
version_line = codes "bigloo-interface 1"

-- `module NAME`
abbrev pub module_line : List ℕ → List ℕ
module_line name = codes "module " ++ name

abbrev pub end_line : List ℕ
end_line = codes "end"

abbrev pub lines_of : IfaceTree → List (List ℕ)
lines_of i = version_line ∷ module_line i.module_name ∷ (map row_line i.rows ++ end_line ∷ [])

-- lines, each ended by byte 10
abbrev pub ended : List (List ℕ) → List ℕ
ended [] = []
ended (l ∷ ls) = l ++ (10 ∷ ended ls)

abbrev pub spelling : IfaceTree → List ℕ
spelling i = ended (lines_of i)

-- What has a spelling -----------------------------------------------------------------------

abbrev pub AreUntyped : List Ty → Type 0
AreUntyped [] = Unit {0}
AreUntyped (t ∷ ts) = (t ≡ Obj) × AreUntyped ts

abbrev pub IsUntyped : RowKind → Type 0
IsUntyped (Fun params gives) = AreUntyped params × (gives ≡ Obj)

-- a row after those of other names
pub record IsRow (names : List (List ℕ)) (r : Row) : Type 0 where
  pub is_name : IsSymbol r.name
  pub is_new : has_name names r.name ≡ false
  pub is_untyped : IsUntyped r.kind

-- rows after those of other names, of which no two have one name
abbrev pub AreRows : List (List ℕ) → List Row → Type 0
AreRows names [] = Unit {0}
AreRows names (r ∷ rs) = IsRow names r × AreRows (names ++ r.name ∷ []) rs

pub record HasSpelling (i : IfaceTree) : Type 0 where
  pub module_is_name : IsSymbol i.module_name
  pub are_rows : AreRows [] i.rows
