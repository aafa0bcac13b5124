-- The interface and the module of a source, and the object that it is compiled to.
use Rattle.std.specs.Prelude.{◌≡◌, ℕ, List, Some, Result, Ok, Err}
use Rattle.std.specs.List.{AllZip}
use Rattle.scheme_data.specs.Data.{plain_all}
use Rattle.scheme_data.specs.declared.datum.Datum.{Datum}
use Rattle.iface_text.specs.Format.{IfaceTree}
use Rattle.iface_text.specs.Answers.{IsText}
use Rattle.core_tree.specs.Tree.{ModuleTree}
use Rattle.core_tree.specs.WellFormed.{IsWellFormed}
use Rattle.plan_rules.specs.Translation.{Translated}
use Rattle.scheme_read.specs.declared.error.ReadErr.{ReadErr}
use Rattle.scheme_read.specs.declared.error.ReadErr.TheVariants as reading
use Rattle.scheme_read.specs.Answers.{IsSource}
use Rattle.module_head.specs.declared.error.HeadErr.{HeadErr}
use Rattle.module_head.specs.declared.error.HeadErr.TheVariants as head
use Rattle.core_forms.specs.declared.error.ExpandErr.{ExpandErr}
use Rattle.core_forms.specs.declared.error.ExpandErr.TheVariants as expansion
use Rattle.resolver.specs.Drafts.{exported}
use Rattle.resolver.specs.Elaboration.{elaborated}
use Rattle.object_text.specs.Format.{ObjectTree, ObjectText}
use Rattle.unit_compile.specs.declared.error.UnitErr.{UnitErr}
use Rattle.unit_compile.specs.declared.error.UnitErr.TheVariants.{Syntax, Limit, Header, Duplicate, BadRules, NoRule, Form, NotBuilt, Memory}
use Rattle.unit_compile.specs.Refusals.{AreRight, IsRefusal}

-- Interfaces --------------------------------------------------------------------------------

-- the source's data export these rows
pub record IsInterfaceOf (source : List ℕ) (i : IfaceTree) : Type 0 where
  pub forms : List Datum
  pub read : IsSource source forms
  pub is : exported (plain_all forms) ≡ Some i

-- the text is the one spelling of the interface of a source, which nothing else decides
pub record Exported (source text : List ℕ) : Type 0 where
  pub interface : IfaceTree
  pub is_interface : IsInterfaceOf source interface
  pub only : (i : IfaceTree) → IsInterfaceOf source i → i ≡ interface
  pub is_text : IsText text interface

-- the source is read, nothing in its data is refused, and it has no interface
pub record NotExported (source : List ℕ) : Type 0 where
  pub forms : List Datum
  pub read : IsSource source forms
  pub are_right : AreRight forms
  pub none : (i : IfaceTree) → IsInterfaceOf source i → ⊥

-- Objects -----------------------------------------------------------------------------------

-- the texts are those of these interfaces
abbrev pub AreTexts : List (List ℕ) → List IfaceTree → Type 0
AreTexts texts ifaces = AllZip IsText texts ifaces

-- the source's data are those of this module, where it is compiled with these interface texts
pub record IsModuleOf (source : List ℕ) (texts : List (List ℕ)) (m : ModuleTree) : Type 0 where
  pub forms : List Datum
  pub read : IsSource source forms
  pub interfaces : List IfaceTree
  pub are_texts : AreTexts texts interfaces
  pub is : elaborated interfaces (plain_all forms) ≡ Some m

-- the object has the module's name, imports, uses, exports and main, and its unit is a translation of the module
pub record IsObjectOf (m : ModuleTree) (o : ObjectTree) : Type 0 where
  pub name : o.module_name ≡ m.name
  pub imports : o.imports ≡ m.imports
  pub uses : o.uses ≡ m.uses
  pub exports : o.exports ≡ m.exports
  pub main : o.main ≡ m.main
  pub translated : Translated m o.items

-- the text is that of an object of the source's module, compiled with these interface texts; the source has one reading, and with these texts one module
pub record Compiled (source : List ℕ) (texts : List (List ℕ)) (text : List ℕ) : Type 0 where
  pub forms : List Datum
  pub read : IsSource source forms
  pub read_once : (others : List Datum) → IsSource source others → forms ≡ others
  pub module_tree : ModuleTree
  pub is_module : IsModuleOf source texts module_tree
  pub only : (m : ModuleTree) → IsModuleOf source texts m → m ≡ module_tree
  pub formed : IsWellFormed module_tree
  pub object : ObjectTree
  pub is_text : ObjectText text object
  pub is_object : IsObjectOf module_tree object

-- the source is read, nothing in its data is refused, and it is that of no module with these interface texts
pub record NotCompiled (source : List ℕ) (texts : List (List ℕ)) : Type 0 where
  pub forms : List Datum
  pub read : IsSource source forms
  pub are_right : AreRight forms
  pub none : (m : ModuleTree) → IsModuleOf source texts m → ⊥

-- Answers -----------------------------------------------------------------------------------

-- a source is refused for what it has, or for forms that are not built
abbrev pub ExportsAs : List ℕ → Result (List ℕ) UnitErr → Type 0
ExportsAs source (Ok text) = Exported source text
ExportsAs source (Err (Syntax at)) = IsRefusal source (Syntax at)
ExportsAs source (Err (Limit kind)) = IsRefusal source (Limit kind)
ExportsAs source (Err (Header at)) = IsRefusal source (Header at)
ExportsAs source (Err (Duplicate name)) = IsRefusal source (Duplicate name)
ExportsAs source (Err (BadRules at)) = IsRefusal source (BadRules at)
ExportsAs source (Err (NoRule at)) = IsRefusal source (NoRule at)
ExportsAs source (Err (Form at)) = IsRefusal source (Form at)
ExportsAs source (Err NotBuilt) = NotExported source
ExportsAs source (Err Memory) = Unit {0}

-- a source with interfaces is refused for what it has, or for forms, interfaces or imports that are not built
abbrev pub CompilesTo : List ℕ → List (List ℕ) → Result (List ℕ) UnitErr → Type 0
CompilesTo source texts (Ok text) = Compiled source texts text
CompilesTo source texts (Err (Syntax at)) = IsRefusal source (Syntax at)
CompilesTo source texts (Err (Limit kind)) = IsRefusal source (Limit kind)
CompilesTo source texts (Err (Header at)) = IsRefusal source (Header at)
CompilesTo source texts (Err (Duplicate name)) = IsRefusal source (Duplicate name)
CompilesTo source texts (Err (BadRules at)) = IsRefusal source (BadRules at)
CompilesTo source texts (Err (NoRule at)) = IsRefusal source (NoRule at)
CompilesTo source texts (Err (Form at)) = IsRefusal source (Form at)
CompilesTo source texts (Err NotBuilt) = NotCompiled source texts
CompilesTo source texts (Err Memory) = Unit {0}

-- how a source with this fault is refused
abbrev pub refusal_for : ReadErr → UnitErr
refusal_for (reading.Syntax at) = Syntax at
refusal_for (reading.Limit kind at) = Limit kind
refusal_for reading.Memory = Memory

-- how a source with this breach of its head is refused
abbrev pub refusal_of_head : HeadErr → UnitErr
refusal_of_head (head.Header at) = Header at
refusal_of_head (head.Duplicate name) = Duplicate name
refusal_of_head head.Memory = Memory

-- how a source is refused whose expansion stops so
abbrev pub refusal_of_expansion : ExpandErr → UnitErr
refusal_of_expansion (expansion.BadRules at) = BadRules at
refusal_of_expansion (expansion.NoRule at) = NoRule at
refusal_of_expansion (expansion.Form at) = Form at
refusal_of_expansion (expansion.Limit kind) = Limit kind
refusal_of_expansion expansion.Memory = Memory
