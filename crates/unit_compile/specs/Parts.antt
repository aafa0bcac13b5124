-- What reading the interfaces, and making a module of a source's data with them, answers.
use Rattle.std.specs.Prelude.{◌≡◌, ℕ, List, map, Some, None, Result, Ok, Err}
use Rattle.std.specs.List.{AllZip}
use Rattle.scheme_data.specs.Data.{plain_all}
use Rattle.scheme_data.specs.declared.datum.Datum.{Datum}
use Rattle.iface_text.specs.declared.interface.Iface.{Iface}
use Rattle.iface_text.specs.Format.{IfaceTree, iface_tree}
use Rattle.iface_text.specs.Answers.{IsText}
use Rattle.core_tree.specs.declared.tree.Module.{Module}
use Rattle.core_tree.specs.Tree.{ModuleTree, module_tree}
use Rattle.core_tree.specs.WellFormed.{IsWellFormed}
use Rattle.resolver.specs.Elaboration.{elaborated}
use Rattle.unit_compile.specs.Compilation.{AreTexts}
use Rattle.unit_compile.specs.declared.error.UnitErr.{UnitErr}
use Rattle.unit_compile.specs.declared.error.UnitErr.TheVariants.{Syntax, Limit, Header, Duplicate, BadRules, NoRule, Form, NotBuilt, Memory}

-- Interfaces --------------------------------------------------------------------------------

-- the text is that of this interface, and of no other
pub record IsOnlyText (text : List ℕ) (i : IfaceTree) : Type 0 where
  pub is_text : IsText text i
  pub only : (j : IfaceTree) → IsText text j → j ≡ i

abbrev pub AreOnlyTexts : List (List ℕ) → List IfaceTree → Type 0
AreOnlyTexts texts ifaces = AllZip IsOnlyText texts ifaces

abbrev pub ReadsOne : List ℕ → Result Iface UnitErr → Type 0
ReadsOne text (Ok i) = IsOnlyText text (iface_tree i)
ReadsOne text (Err (Syntax at)) = ⊥
ReadsOne text (Err (Limit kind)) = ⊥
ReadsOne text (Err (Header at)) = ⊥
ReadsOne text (Err (Duplicate name)) = ⊥
ReadsOne text (Err (BadRules at)) = ⊥
ReadsOne text (Err (NoRule at)) = ⊥
ReadsOne text (Err (Form at)) = ⊥
ReadsOne text (Err NotBuilt) = (i : IfaceTree) → IsText text i → ⊥
ReadsOne text (Err Memory) = Unit {0}

abbrev pub ReadsEach : List (List ℕ) → Result (List Iface) UnitErr → Type 0
ReadsEach texts (Ok is) = AreOnlyTexts texts (map iface_tree is)
ReadsEach texts (Err (Syntax at)) = ⊥
ReadsEach texts (Err (Limit kind)) = ⊥
ReadsEach texts (Err (Header at)) = ⊥
ReadsEach texts (Err (Duplicate name)) = ⊥
ReadsEach texts (Err (BadRules at)) = ⊥
ReadsEach texts (Err (NoRule at)) = ⊥
ReadsEach texts (Err (Form at)) = ⊥
ReadsEach texts (Err NotBuilt) = (is : List IfaceTree) → AreTexts texts is → ⊥
ReadsEach texts (Err Memory) = Unit {0}

-- Modules -----------------------------------------------------------------------------------

-- with these interfaces the data are those of this module
pub record MakesModule (interfaces : List IfaceTree) (forms : List Datum) (m : ModuleTree) : Type 0 where
  pub is : elaborated interfaces (plain_all forms) ≡ Some m
  pub formed : IsWellFormed m

abbrev pub Makes : List IfaceTree → List Datum → Result Module UnitErr → Type 0
Makes interfaces forms (Ok m) = MakesModule interfaces forms (module_tree m)
Makes interfaces forms (Err (Syntax at)) = ⊥
Makes interfaces forms (Err (Limit kind)) = ⊥
Makes interfaces forms (Err (Header at)) = ⊥
Makes interfaces forms (Err (Duplicate name)) = ⊥
Makes interfaces forms (Err (BadRules at)) = ⊥
Makes interfaces forms (Err (NoRule at)) = ⊥
Makes interfaces forms (Err (Form at)) = ⊥
Makes interfaces forms (Err NotBuilt) = elaborated interfaces (plain_all forms) ≡ None
Makes interfaces forms (Err Memory) = Unit {0}
