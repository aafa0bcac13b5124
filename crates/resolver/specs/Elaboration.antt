-- The tree of a module, from its source and the interfaces with which it is compiled.
use Rattle.std.specs.Prelude.{ℕ, List, [], ◌∷◌, ◌++◌, map, find, Option, Some, None}
use Rattle.std.specs.List.{AllByRecursion}
use Rattle.scheme_data.specs.Data.{Plains}
use Rattle.name_table.specs.Names.{has_name}
use Rattle.iface_text.specs.declared.interface.Row.{Row}
use Rattle.iface_text.specs.Format.{IfaceTree, HasSpelling}
use Rattle.resolver.specs.BuiltHeads.{ImportTree, is_word}
pub use Rattle.resolver.specs.BuiltHeads.{onto}
use Rattle.core_tree.specs.declared.tree.ImportItem.{ImportItem}
use Rattle.core_tree.specs.declared.tree.Use.{Use}
use Rattle.core_tree.specs.declared.tree.Use.TheVariants.{From, Need}
use Rattle.core_tree.specs.Tree.{ModuleTree}
use Rattle.core_tree.specs.WellFormed.{same_use}
use Rattle.resolver.specs.Drafts.{Draft, draft, exported_rows}
use Rattle.resolver.specs.Firsts.{firsts}

abbrev pub AreSpelled : List IfaceTree → Type 0
AreSpelled ifaces = AllByRecursion HasSpelling ifaces

-- Rows --------------------------------------------------------------------------------------

-- of two interfaces of one module the first counts
abbrev pub interface_named : List IfaceTree → List ℕ → Option IfaceTree
interface_named ifaces name = find (λ i. is_word i.module_name name) ifaces

abbrev pub row_in : Option IfaceTree → List ℕ → Option Row
row_in None name = None
row_in (Some i) name = find (λ r. is_word r.name name) i.rows

-- the row of a name of a module
abbrev pub row_for : List IfaceTree → List ℕ → List ℕ → Option Row
row_for ifaces m name = row_in (interface_named ifaces m) name

-- Uses --------------------------------------------------------------------------------------

abbrev pub both : Option (List Use) → Option (List Use) → Option (List Use)
both None vs = None
both (Some us) None = None
both (Some us) (Some vs) = Some (us ++ vs)

abbrev pub from : List ℕ → Option Row → Option Use
from m None = None
from m (Some r) = Some (From m r)

abbrev pub need : List ℕ → Option Row → Option Use
need m None = None
need m (Some r) = Some (Need m r)

-- With these interfaces.
module _ (ifaces : List IfaceTree) where
  abbrev pub from_item : List ℕ → Option ImportTree → Option Use
  from_item name None = None
  from_item name (Some i) = from i.module_name (row_for ifaces i.module_name name)

  -- a name is offered by the first import item that has it
  abbrev pub offered : List ImportTree → List ℕ → Option Use
  offered is name = from_item name (find (λ i. has_name i.names name) is)

  abbrev pub calls : List ImportTree → List (List ℕ) → Option (List Use)
  calls is [] = Some []
  calls is (x ∷ xs) = onto (offered is x) (calls is xs)

  abbrev pub item_needs : List ℕ → List (List ℕ) → Option (List Use)
  item_needs m [] = Some []
  item_needs m (x ∷ xs) = onto (need m (row_for ifaces m x)) (item_needs m xs)

  -- every name of every item, in clause order
  abbrev pub needs : List ImportTree → Option (List Use)
  needs [] = Some []
  needs (i ∷ is) = both (item_needs i.module_name i.names) (needs is)

-- each name of a module once, where it comes first
abbrev pub each_use_once : Option (List Use) → Option (List Use)
each_use_once None = None
each_use_once (Some us) = Some (firsts same_use us)

-- what a source calls of other modules, in order of first use, and then what it imports and doesn't call, in clause order
abbrev pub uses : List IfaceTree → Draft → Option (List Use)
uses ifaces d = each_use_once (both (calls ifaces d.head.imports d.outside) (needs ifaces d.head.imports))

-- Modules -----------------------------------------------------------------------------------

abbrev pub import_item : ImportTree → ImportItem
import_item i = record { module_name = i.module_name; names = i.names }

abbrev pub module_with : Draft → Option (List Use) → Option ModuleTree
module_with d None = None
module_with d (Some us) =
    Some (record {
      name = d.head.name;
      imports = map import_item d.head.imports;
      functions = d.functions;
      forms = d.forms;
      uses = us;
      exports = exported_rows d.head;
      main = d.head.main;
    })

abbrev pub completed : List IfaceTree → Option Draft → Option ModuleTree
completed ifaces None = None
completed ifaces (Some d) = module_with d (uses ifaces d)

-- the module of a source with these interfaces: each name that it imports has a row
abbrev pub elaborated : List IfaceTree → Plains → Option ModuleTree
elaborated ifaces forms = completed ifaces (draft forms)
