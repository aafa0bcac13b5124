-- Which objects are linked, and to what; which are refused, and for what.
use Rattle.std.specs.Prelude.{◌≡◌, ◌⊎◌, ℕ, suc, List, [], ◌∷◌, map, find, filter, length, nat_eq, nat_lt, Bool, true, false, not, ◌&&◌, if◌then◌else◌, Option, Some, None, Result, Ok, Err}
use Rattle.std.specs.List.{list_all, AllZip}
use Rattle.std.specs.Option.{option_or}
use Rattle.std.specs.Cmp.Lexicographic.{pointwise}
use Rattle.scheme_data.specs.Names.{are_distinct, is_same}
use Rattle.built_table.specs.declared.primitives.Ty.{Ty}
use Rattle.built_table.specs.declared.primitives.Ty.TheVariants.{Obj, Long, Bool as Truth}
use Rattle.name_table.specs.Names.{has_name}
use Rattle.iface_text.specs.declared.interface.Row.{Row}
use Rattle.iface_text.specs.declared.interface.RowKind.{RowKind}
use Rattle.iface_text.specs.declared.interface.RowKind.TheVariants.{Fun}
use Rattle.core_tree.specs.declared.tree.ImportItem.{ImportItem}
use Rattle.core_tree.specs.declared.tree.Use.{Use}
use Rattle.core_tree.specs.Tree.{Callee}
use Rattle.core_tree.specs.WellFormed.{module_of, row_of}
use Rattle.std.specs.Option.{is_some}
use Rattle.meaning.specs.Order.{Imports, imports_of, IsOrder, root_of, chosen}
use Rattle.meaning.specs.Program.{main_in}
use Rattle.c_tree.specs.Spelling.{CText}
use Rattle.plan_rules.specs.Joined.{Part, joined}
use Rattle.object_text.specs.Format.{ObjectTree, ObjectText}
use Rattle.linker.specs.declared.linking.LinkErr.{LinkErr}
use Rattle.linker.specs.declared.linking.LinkErr.TheVariants.{MissingModule, MissingName, NotBuilt, Memory}

abbrev pub names_of : List ObjectTree → List (List ℕ)
names_of os = map (λ o. o.module_name) os

abbrev pub object_named : List ObjectTree → List ℕ → Option ObjectTree
object_named os name = find (λ o. is_same o.module_name name) os

-- Rows --------------------------------------------------------------------------------------

abbrev pub exported_row : Option ObjectTree → List ℕ → Option Row
exported_row None name = None
exported_row (Some o) name = find (λ r. is_same r.name name) o.exports

-- the row that the used name has now in its module's object
abbrev pub current_row : List ObjectTree → Use → Option Row
current_row os u = exported_row (object_named os (module_of u)) (row_of u).name

abbrev pub same_type : Ty → Ty → Bool
same_type Obj Obj = true
same_type Long Long = true
same_type Truth Truth = true
same_type _ _ = false

abbrev pub same_types : List Ty → List Ty → Bool
same_types ts us = pointwise same_type ts us

-- one signature
abbrev pub same_kind : RowKind → RowKind → Bool
same_kind (Fun ts t) (Fun us u) = same_types ts us && same_type t u

abbrev pub agrees : Row → Option Row → Bool
agrees used None = false
agrees used (Some current) = same_kind used.kind current.kind

-- each use has the signature that its name has now
abbrev pub are_current : List ObjectTree → Bool
are_current os = list_all (λ o. list_all (λ u. agrees (row_of u) (current_row os u)) o.uses) os

-- Refusals ----------------------------------------------------------------------------------

-- the first object that is refused decides; objects are numbered from 1
abbrev pub first_refused : (ℕ → ObjectTree → Option LinkErr) → ℕ → List ObjectTree → Option LinkErr
first_refused refusal n [] = None
first_refused refusal n (o ∷ os) = option_or (refusal n o) (first_refused refusal (suc n) os)

-- the first import item whose module no object has, where these are the modules' names
abbrev pub missing_module : List (List ℕ) → ℕ → List ImportItem → Option LinkErr
missing_module names n [] = None
missing_module names n (i ∷ is) = if has_name names i.module_name then missing_module names n is else Some (MissingModule n i.module_name)

-- the first use whose name its module doesn't export now
abbrev pub missing_name : List ObjectTree → ℕ → List Use → Option LinkErr
missing_name os n [] = None
missing_name os n (u ∷ us) = if is_some (current_row os u) then missing_name os n us else Some (MissingName n (module_of u) (row_of u).name)

abbrev pub missing_modules : List ObjectTree → Option LinkErr
missing_modules os = first_refused (λ n o. missing_module (names_of os) n o.imports) 1 os

abbrev pub missing_names : List ObjectTree → Option LinkErr
missing_names os = first_refused (λ n o. missing_name os n o.uses) 1 os

-- the most objects of one link
abbrev pub most_modules : ℕ
most_modules = 200

-- not too many, and no name twice
abbrev pub are_modules : List ObjectTree → Bool
are_modules os = not (nat_lt most_modules (length os)) && are_distinct (names_of os)

abbrev pub has_one_main : List ObjectTree → Bool
has_one_main os = nat_eq (length (filter (λ o. is_some o.main) os)) 1

abbrev pub unless : Bool → Option LinkErr
unless true = None
unless false = Some NotBuilt

-- why objects aren't linked, the first cause in this order: they are too many or have a name twice; a module is missing; a name is missing; a use is of another signature; none has a main function, or more than one has
abbrev pub link_refusal : List ObjectTree → Option LinkErr
link_refusal os = option_or (unless (are_modules os)) (option_or (missing_modules os) (option_or (missing_names os) (option_or (unless (are_current os)) (unless (has_one_main os)))))

-- Links -------------------------------------------------------------------------------------

-- the texts are those of these objects
abbrev pub AreObjectTexts : List (List ℕ) → List ObjectTree → Type 0
AreObjectTexts texts os = AllZip ObjectText texts os

-- and of no others
pub record AreObjects (texts : List (List ℕ)) (os : List ObjectTree) : Type 0 where
  pub texts_are : AreObjectTexts texts os
  pub only : (others : List ObjectTree) → AreObjectTexts texts others → others ≡ os

-- which objects each imports, by number
abbrev pub imports_in : List ObjectTree → Imports
imports_in os = imports_of (names_of os) (map (λ o. o.imports) os)

abbrev pub part_of : ObjectTree → Part
part_of o = record { module_name = o.module_name; items = o.items }

-- the main function of the first object that has one
abbrev pub main_of : List ObjectTree → Option Callee
main_of [] = None
main_of (o ∷ os) = main_in o.module_name o.main (main_of os)

-- the text is that of the program of those objects that are reached from the one with `main`, in the order in which modules are initialised
pub record Linked (texts : List (List ℕ)) (text : List ℕ) : Type 0 where
  pub objects : List ObjectTree
  pub are_objects : AreObjects texts objects
  pub accepted : link_refusal objects ≡ None
  pub root : ℕ
  pub is_root : root_of (map (λ o. o.main) objects) ≡ Some root
  pub order : List ℕ
  pub is_order : IsOrder (imports_in objects) root order
  pub main : Callee
  pub is_main : main_of (chosen objects order) ≡ Some main
  pub is_text : CText text (joined (map part_of (chosen objects order)) main)

-- they are objects, and refused for this
pub record AreRefused (texts : List (List ℕ)) (e : LinkErr) : Type 0 where
  pub objects : List ObjectTree
  pub are_objects : AreObjects texts objects
  pub refused : link_refusal objects ≡ Some e

abbrev pub AreNoObjects : List (List ℕ) → Type 0
AreNoObjects texts = (os : List ObjectTree) → AreObjectTexts texts os → ⊥

-- whether each text is that of an object comes before all else
abbrev pub NotLinked : List (List ℕ) → LinkErr → Type 0
NotLinked texts (MissingModule n name) = AreRefused texts (MissingModule n name)
NotLinked texts (MissingName n m name) = AreRefused texts (MissingName n m name)
NotLinked texts NotBuilt = AreNoObjects texts ⊎ AreRefused texts NotBuilt
NotLinked texts Memory = Unit {0}

abbrev pub LinksTo : List (List ℕ) → Result (List ℕ) LinkErr → Type 0
LinksTo texts (Ok text) = Linked texts text
LinksTo texts (Err e) = NotLinked texts e
