-- The lines of a header one by one, and how each is found at the start of some bytes.
use Rattle.std.specs.Prelude.{◌≡◌, ◌≢◌, ℕ, List, [], ◌∷◌, ◌++◌, Bool, true, false, not, ◌&&◌, Option, Some, None}
use Rattle.scheme_data.specs.Symbols.{is_symbol_byte, IsSymbol}
use Rattle.name_table.specs.Names.{has_name}
use Rattle.iface_text.specs.declared.interface.Row.{Row}
use Rattle.iface_text.specs.Format.{IsUntyped, row_line}
use Rattle.core_tree.specs.declared.tree.ImportItem.{ImportItem}
use Rattle.core_tree.specs.declared.tree.Use.{Use}
use Rattle.object_text.specs.Format.{import_line, use_line, export_line, main_line, IsMainName}

-- Names -------------------------------------------------------------------------------------

-- the first byte, if there is one, fails the test
abbrev pub Stops : (ℕ → Bool) → List ℕ → Type 0
Stops p [] = Unit {0}
Stops p (b ∷ bs) = p b ≡ false

abbrev pub EndsName : List ℕ → Type 0
EndsName rest = Stops is_symbol_byte rest

pub record IsNamed (bytes front name rest : List ℕ) : Type 0 where
  pub are : bytes ≡ front ++ (name ++ rest)
  pub is_name : IsSymbol name
  pub stops : EndsName rest

abbrev pub NotNamed : List ℕ → List ℕ → Type 0
NotNamed bytes front = (name rest : List ℕ) → IsNamed bytes front name rest → ⊥

-- Parts, with their line ends ---------------------------------------------------------------

abbrev pub name_text : List ℕ → List ℕ
name_text x = 32 ∷ x

abbrev pub import_text : ImportItem → List ℕ
import_text i = import_line i ++ 10 ∷ []

abbrev pub use_text : Use → List ℕ
use_text u = use_line u ++ 10 ∷ []

abbrev pub row_text : Row → List ℕ
row_text r = row_line r ++ 10 ∷ []

abbrev pub export_text : Row → List ℕ
export_text r = export_line r ++ 10 ∷ []

pub record IsUntypedRow (r : Row) : Type 0 where
  pub name : IsSymbol r.name
  pub untyped : IsUntyped r.kind

-- the bytes begin with this word, a module's name and a row
pub record IsUsed (bytes front name : List ℕ) (r : Row) (rest : List ℕ) : Type 0 where
  pub are : bytes ≡ front ++ (name ++ (32 ∷ (row_text r ++ rest)))
  pub is_name : IsSymbol name
  pub row : IsUntypedRow r

abbrev pub NotUsed : List ℕ → List ℕ → Type 0
NotUsed bytes front = (name : List ℕ) (r : Row) (rest : List ℕ) → IsUsed bytes front name r rest → ⊥

-- no name stands twice, nor among these
abbrev pub are_new : List (List ℕ) → List Row → Bool
are_new names [] = true
are_new names (r ∷ rs) = not (has_name names r.name) && are_new (names ++ r.name ∷ []) rs

-- The main function -------------------------------------------------------------------------

abbrev pub main_text : Option (List ℕ) → List ℕ
main_text None = []
main_text (Some f) = main_line f ++ 10 ∷ []

abbrev pub NotMain : List ℕ → Type 0
NotMain bytes = (f rest : List ℕ) → IsSymbol f → bytes ≢ main_line f ++ (10 ∷ rest)

-- where no main line was read, none stands there
abbrev pub NoneLeft : Option (List ℕ) → List ℕ → Type 0
NoneLeft None rest = NotMain rest
NoneLeft (Some f) rest = Unit {0}

pub record IsMainRead (bytes : List ℕ) (main : Option (List ℕ)) (rest : List ℕ) : Type 0 where
  pub are : bytes ≡ main_text main ++ rest
  pub is_name : IsMainName main
  pub none : NoneLeft main rest
