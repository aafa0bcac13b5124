-- What sources mean together. Each is resolved with the interfaces of all of them, which are what they export now, whatever interface texts it was compiled with.
use Rattle.std.specs.Prelude.{◌≡◌, ℕ, List, map, Some}
use Rattle.std.specs.List.{AllZip}
use Rattle.scheme_data.specs.Data.{plain_all}
use Rattle.scheme_data.specs.declared.datum.Datum.{Datum}
use Rattle.scheme_read.specs.Answers.{IsSource}
use Rattle.iface_text.specs.Format.{IfaceTree}
use Rattle.core_tree.specs.Tree.{ModuleTree}
use Rattle.meaning.specs.Order.{Imports, imports_of, IsOrder, root_of, chosen}
use Rattle.meaning.specs.Program.{src}
use Rattle.c_tree.specs.Code.{Item}
use Rattle.c_tree.specs.Spelling.{CText}
use Rattle.c_meaning.specs.Program.{cm}
use Rattle.c_meaning.specs.Checked.{IsChecked}
use Rattle.c_meaning.specs.Runnable.{IsRunnable}
use Rattle.resolver.specs.Elaboration.{elaborated}
use Rattle.unit_compile.specs.Compilation.{IsInterfaceOf}

-- each source has this interface
abbrev pub AreInterfacesOf : List (List ℕ) → List IfaceTree → Type 0
AreInterfacesOf sources interfaces = AllZip IsInterfaceOf sources interfaces

-- the source's data are those of this module, with these interfaces
pub record IsModuleWith (interfaces : List IfaceTree) (source : List ℕ) (m : ModuleTree) : Type 0 where
  pub forms : List Datum
  pub read : IsSource source forms
  pub is : elaborated interfaces (plain_all forms) ≡ Some m

abbrev pub AreModulesWith : List IfaceTree → List (List ℕ) → List ModuleTree → Type 0
AreModulesWith interfaces sources modules = AllZip (IsModuleWith interfaces) sources modules

-- the modules of the sources, with the sources' own interfaces
pub record AreModulesOf (sources : List (List ℕ)) (modules : List ModuleTree) : Type 0 where
  pub interfaces : List IfaceTree
  pub own : AreInterfacesOf sources interfaces
  pub are : AreModulesWith interfaces sources modules

-- which modules each imports, by number
abbrev pub imports_in : List ModuleTree → Imports
imports_in ms = imports_of (map (λ m. m.name) ms) (map (λ m. m.imports) ms)

-- the program of the sources: those of their modules that are reached from the one with `main`, in the order in which they are initialised
pub record IsProgramOf (sources : List (List ℕ)) (program : List ModuleTree) : Type 0 where
  pub modules : List ModuleTree
  pub are_modules : AreModulesOf sources modules
  pub root : ℕ
  pub is_root : root_of (map (λ m. m.main) modules) ≡ Some root
  pub order : List ℕ
  pub is_order : IsOrder (imports_in modules) root order
  pub is : program ≡ chosen modules order

-- the bytes are a text that means what the sources mean together: it breaks no rule of C and is of the forms that the machine does so far, and for every input, arguments and number of turns it prints and ends as their program does by its plain meaning
pub record MeansSources (sources : List (List ℕ)) (bytes : List ℕ) : Type 0 where
  pub items : List Item
  pub text : CText bytes items
  pub checked : IsChecked items
  pub runnable : IsRunnable items
  pub program : List ModuleTree
  pub is_program : IsProgramOf sources program
  pub same : (others : List ModuleTree) → IsProgramOf sources others → (input : List ℕ) (args : List (List ℕ)) (turns : ℕ) → cm items input args turns ≡ src others input args turns
