-- The format of an object text: header lines, and then the C text of the unit to the end.
use Rattle.std.specs.Prelude.{◌≡◌, ℕ, List, [], ◌∷◌, ◌++◌, map, codes, IsTrue, Option, Some, None}
use Rattle.scheme_data.specs.Symbols.{IsSymbol}
use Rattle.iface_text.specs.declared.interface.Row.{Row}
use Rattle.iface_text.specs.Format.{IsUntyped, AreRows, row_line, module_line, ended}
use Rattle.iface_text.specs.Lines.{untyped_row}
use Rattle.core_tree.specs.declared.tree.ImportItem.{ImportItem}
use Rattle.core_tree.specs.declared.tree.Use.{Use}
use Rattle.core_tree.specs.declared.tree.Use.TheVariants.{From, Need}
use Rattle.core_tree.specs.WellFormed.{AreImports, are_ordered, module_of, row_of}
use Rattle.c_tree.specs.Code.{Item}
use Rattle.c_tree.specs.Functions.{items_of}
use Rattle.c_tree.specs.Spelling.{CText, NamedItems}
use Rattle.object_text.specs.declared.object.Object.{Object}

pub record ObjectTree : Type 0 where
  pub module_name : List ℕ
  pub imports : List ImportItem
  pub uses : List Use
  pub exports : List Row
  pub main : Option (List ℕ)
  pub items : List Item

abbrev pub object_tree : Object → ObjectTree
object_tree o = record { module_name = o.module_name; imports = o.imports; uses = o.uses; exports = o.exports; main = o.main; items = items_of o.unit.items }

-- Lines -------------------------------------------------------------------------------------

abbrev pub version_line : List ℕ
version_line = codes "bigloo-object 1"

-- names, with a blank before each
abbrev pub more_names : List (List ℕ) → List ℕ
more_names [] = []
more_names (x ∷ xs) = 32 ∷ (x ++ more_names xs)

-- `import MODULE NAME ...`
abbrev pub import_line : ImportItem → List ℕ
import_line i = codes "import " ++ (i.module_name ++ more_names i.names)

-- `use MODULE ROW` for what is called, `need MODULE ROW` for what is imported besides
abbrev pub use_line : Use → List ℕ
use_line (From m r) = codes "use " ++ (m ++ 32 ∷ row_line r)
use_line (Need m r) = codes "need " ++ (m ++ 32 ∷ row_line r)

-- `export ROW`
abbrev pub export_line : Row → List ℕ
export_line r = codes "export " ++ row_line r

-- `main ROW`, of a function with one parameter
abbrev pub main_line : List ℕ → List ℕ
main_line f = codes "main " ++ row_line (untyped_row f 1)

abbrev pub main_lines : Option (List ℕ) → List (List ℕ)
main_lines None = []
main_lines (Some f) = main_line f ∷ []

abbrev pub code_line : List ℕ
code_line = codes "code"

-- what stands before the unit
abbrev pub header_lines : ObjectTree → List (List ℕ)
header_lines o =
    version_line
    ∷ module_line o.module_name
    ∷ (map import_line o.imports ++ (map use_line o.uses ++ (map export_line o.exports ++ (main_lines o.main ++ code_line ∷ []))))

-- What has a text ---------------------------------------------------------------------------

pub record IsUseRow (u : Use) : Type 0 where
  pub module_name : IsSymbol (module_of u)
  pub name : IsSymbol (row_of u).name
  pub untyped : IsUntyped (row_of u).kind

abbrev pub AreUseRows : List Use → Type 0
AreUseRows [] = Unit {0}
AreUseRows (u ∷ us) = IsUseRow u × AreUseRows us

abbrev pub IsMainName : Option (List ℕ) → Type 0
IsMainName None = Unit {0}
IsMainName (Some f) = IsSymbol f

-- names are names, what is called comes before what is imported besides, and no two exports have one name
pub record HasHeader (o : ObjectTree) : Type 0 where
  pub module_name : IsSymbol o.module_name
  pub imports : AreImports o.imports
  pub uses : AreUseRows o.uses
  pub ordered : IsTrue (are_ordered o.uses)
  pub exports : AreRows [] o.exports
  pub main : IsMainName o.main

-- the bytes are a text of this object
pub record ObjectText (bytes : List ℕ) (o : ObjectTree) : Type 0 where
  pub unit : List ℕ
  pub are : bytes ≡ ended (header_lines o) ++ unit
  pub text : CText unit o.items
  pub header : HasHeader o

-- some text has this object
pub record CanBeWritten (o : ObjectTree) : Type 0 where
  pub named : NamedItems o.items
  pub header : HasHeader o
