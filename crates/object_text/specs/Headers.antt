-- What the lines before the unit tell.
use Rattle.std.specs.Prelude.{◌≡◌, ℕ, List, ◌++◌}
use Rattle.scheme_data.specs.Symbols.{IsSymbol}
use Rattle.iface_text.specs.Format.{ended}
use Rattle.core_tree.specs.WellFormed.{AreImports}
use Rattle.c_tree.specs.Code.{Item}
use Rattle.object_text.specs.declared.header.Header.{Header}
use Rattle.object_text.specs.Format.{ObjectTree, AreUseRows, IsMainName, header_lines, HasHeader}
use Rattle.object_text.specs.Header.{IsUntypedRow}
use Rattle.object_text.specs.Parts.{AllAre}

-- an object with this header
abbrev pub tree_of : Header → List Item → ObjectTree
tree_of h items = record { module_name = h.module_name; imports = h.imports; uses = h.uses; exports = h.exports; main = h.main; items = items }

-- the bytes are such lines, each right by itself, and then the unit
pub record AreLines (bytes : List ℕ) (o : ObjectTree) (unit : List ℕ) : Type 0 where
  pub are : bytes ≡ ended (header_lines o) ++ unit
  pub module_name : IsSymbol o.module_name
  pub imports : AreImports o.imports
  pub uses : AreUseRows o.uses
  pub exports : AllAre IsUntypedRow o.exports
  pub main : IsMainName o.main

-- the bytes are the header of this object, and then the unit
pub record BeginsWith (bytes : List ℕ) (o : ObjectTree) (unit : List ℕ) : Type 0 where
  pub are : bytes ≡ ended (header_lines o) ++ unit
  pub header : HasHeader o

-- the object has this header, and the unit is what follows it
pub record HasThese (h : Header) (o : ObjectTree) (unit : List ℕ) : Type 0 where
  pub tree : tree_of h o.items ≡ o
  pub unit_is : h.unit.now ≡ unit

abbrev pub OnlyLines : List ℕ → Header → Type 0
OnlyLines bytes h = (o : ObjectTree) (unit : List ℕ) → AreLines bytes o unit → HasThese h o unit

abbrev pub NoLines : List ℕ → Type 0
NoLines bytes = (o : ObjectTree) (unit : List ℕ) → AreLines bytes o unit → ⊥

abbrev pub OnlyHeader : List ℕ → Header → Type 0
OnlyHeader bytes h = (o : ObjectTree) (unit : List ℕ) → BeginsWith bytes o unit → HasThese h o unit

abbrev pub NoHeader : List ℕ → Type 0
NoHeader bytes = (o : ObjectTree) (unit : List ℕ) → BeginsWith bytes o unit → ⊥
