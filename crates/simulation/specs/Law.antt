-- The law.
use Rattle.std.specs.Prelude.{◌≡◌, ℕ, List}
use Rattle.std.specs.List.{AllZip}
use Rattle.core_tree.specs.Tree.{ModuleTree, Callee}
use Rattle.meaning.specs.Program.{src, IsProgram}
use Rattle.c_tree.specs.Spelling.{NamedItems}
use Rattle.c_meaning.specs.Program.{cm}
use Rattle.c_meaning.specs.Plain.{IsPlain}
use Rattle.plan_rules.specs.Joined.{Part, joined}
use Rattle.plan_rules.specs.Translation.{Translated}

-- the unit of a module, under its name
pub record IsUnitOf (m : ModuleTree) (p : Part) : Type 0 where
  pub named : p.module_name ≡ m.name
  pub translated : Translated m p.items

-- the units of these modules, in this order
abbrev pub AreTranslated : List ModuleTree → List Part → Type 0
AreTranslated ms ps = AllZip IsUnitOf ms ps

-- what the linked program of modules is
pub record IsFaithful (program : List ModuleTree) (parts : List Part) (main : Callee) : Type 0 where
  pub named : NamedItems (joined parts main)
  pub plain : IsPlain (joined parts main)
  pub same : (input : List ℕ) (args : List (List ℕ)) (turns : ℕ) → cm (joined parts main) input args turns ≡ src program input args turns

unfoldable pub KeepsMeaning : Type 0
KeepsMeaning = (program : List ModuleTree) (parts : List Part) (is : IsProgram program) → AreTranslated program parts → IsFaithful program parts is.main
