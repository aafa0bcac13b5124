-- Objects that are read and the units that are joined, seen as plain trees, and what is known of them on the way.
use Rattle.std.specs.Prelude.{◌≡◌, ℕ, List, [], ◌∷◌, map, slice_get, false, IsTrue, Some, None, Result, Ok, Err}
use Rattle.std.specs.List.{AllZip}
use Rattle.scheme_data.specs.Symbols.{IsSymbol}
use Rattle.iface_text.specs.declared.interface.Row.{Row}
use Rattle.c_tree.specs.Functions.{items_of}
use Rattle.c_tree.specs.Names.{is_function_name, function_name}
use Rattle.c_tree.specs.Spelling.{CText, NamedItems}
use Rattle.core_tree.specs.Tree.{Callee}
use Rattle.meaning.specs.Order.{IsOrder, is_marked, root_of, chosen}
use Rattle.plan_rules.specs.Joined.{Part, joined}
use Rattle.object_text.specs.Format.{ObjectTree, ObjectText, object_tree}
use Rattle.linker.specs.declared.indexed.Indexed.{Indexed}
use Rattle.linker.specs.declared.joining.NamedUnit.{NamedUnit}
use Rattle.linker.specs.declared.linking.LinkErr.{LinkErr}
use Rattle.linker.specs.declared.linking.LinkErr.TheVariants.{MissingModule, MissingName, NotBuilt, Memory}
use Rattle.linker.specs.Links.{link_refusal, imports_in, part_of, main_of}

-- Objects -----------------------------------------------------------------------------------

abbrev pub row_names : List Row → List (List ℕ)
row_names rows = map (λ r. r.name) rows

abbrev pub tree_of : Indexed → ObjectTree
tree_of indexed = object_tree indexed.object

abbrev pub trees : List Indexed → List ObjectTree
trees objects = map tree_of objects

-- the text is that of this object, and of no other
pub record IsOnlyObject (text : List ℕ) (o : ObjectTree) : Type 0 where
  pub is_text : ObjectText text o
  pub only : (other : ObjectTree) → ObjectText text other → other ≡ o

abbrev pub AreOnlyObjects : List (List ℕ) → List ObjectTree → Type 0
AreOnlyObjects texts os = AllZip IsOnlyObject texts os

-- The choice --------------------------------------------------------------------------------

-- no number stands twice
abbrev pub AreApart : List ℕ → Type 0
AreApart [] = Unit {0}
AreApart (n ∷ ns) = (is_marked ns n ≡ false) × AreApart ns

-- the place of the object with a main function, and that function's name
pub record IsMain (os : List ObjectTree) (place : ℕ) (function : List ℕ) : Type 0 where
  pub is_root : root_of (map (λ o. o.main) os) ≡ Some place
  pub object : ObjectTree
  pub at : slice_get os place ≡ Some object
  pub name : List ℕ
  pub main : object.main ≡ Some name
  pub is_function : function ≡ function_name object.module_name name
  pub named : IsTrue (is_function_name function)

-- Units -------------------------------------------------------------------------------------

abbrev pub unit_part : NamedUnit → Part
unit_part u = record { module_name = u.module_name; items = items_of u.items }

abbrev pub unit_names : List NamedUnit → List (List ℕ)
unit_names units = map (λ u. u.module_name) units

pub record NamedPart (p : Part) : Type 0 where
  pub module_name : IsSymbol p.module_name
  pub items : NamedItems p.items

-- Links -------------------------------------------------------------------------------------

-- the text is that of the program of these objects
pub record IsProgram (os : List ObjectTree) (text : List ℕ) : Type 0 where
  pub root : ℕ
  pub is_root : root_of (map (λ o. o.main) os) ≡ Some root
  pub order : List ℕ
  pub is_order : IsOrder (imports_in os) root order
  pub main : Callee
  pub is_main : main_of (chosen os order) ≡ Some main
  pub is_text : CText text (joined (map part_of (chosen os order)) main)

pub record LinkedTrees (os : List ObjectTree) (text : List ℕ) : Type 0 where
  pub accepted : link_refusal os ≡ None
  pub program : IsProgram os text

-- the text of their program, or why they are refused
abbrev pub LinksTrees : List ObjectTree → Result (List ℕ) LinkErr → Type 0
LinksTrees os (Ok text) = LinkedTrees os text
LinksTrees os (Err (MissingModule n name)) = link_refusal os ≡ Some (MissingModule n name)
LinksTrees os (Err (MissingName n m name)) = link_refusal os ≡ Some (MissingName n m name)
LinksTrees os (Err NotBuilt) = link_refusal os ≡ Some NotBuilt
LinksTrees os (Err Memory) = Unit {0}
