-- The law of separate compilation: what objects are linked to means what their sources mean together.
use Rattle.std.specs.Prelude.{◌≡◌, ℕ, List, map}
use Rattle.std.specs.List.{AllZip}
use Rattle.std.specs.List.Sorted.{IsPermutation}
use Rattle.core_tree.specs.Tree.{ModuleTree}
use Rattle.unit_compile.specs.Compilation.{IsModuleOf, Compiled}
use Rattle.linker.specs.Links.{Linked}
use Rattle.whole_program.specs.Sources.{AreModulesOf, MeansSources}

-- a source, and the interface texts with which it is compiled
pub record Compilation : Type 0 where
  pub source : List ℕ
  pub interfaces : List (List ℕ)

-- the texts are the objects of these sources, each compiled with its interface texts
abbrev pub AreCompiled : List Compilation → List (List ℕ) → Type 0
AreCompiled cs texts = AllZip (λ c text. Compiled c.source c.interfaces text) cs texts

abbrev pub sources_of : List Compilation → List (List ℕ)
sources_of cs = map (λ c. c.source) cs

-- modules of the sources, each under the interface texts with which it is compiled
abbrev pub AreModulesAsCompiled : List Compilation → List ModuleTree → Type 0
AreModulesAsCompiled cs ms = AllZip (λ c m. IsModuleOf c.source c.interfaces m) cs ms

-- each source is one module under the interface texts with which it was compiled, and the same one under the interfaces that the sources have now
pub record HaveSameModules (compilations : List Compilation) : Type 0 where
  pub modules : List ModuleTree
  pub as_compiled : AreModulesAsCompiled compilations modules
  pub as_now : AreModulesOf (sources_of compilations) modules
  pub only_compiled : (others : List ModuleTree) → AreModulesAsCompiled compilations others → others ≡ modules
  pub only_now : (others : List ModuleTree) → AreModulesOf (sources_of compilations) others → others ≡ modules

-- the text is linked from objects of these sources, and means what they mean together
pub record IsLinkedFrom (compilations : List Compilation) (text : List ℕ) : Type 0 where
  pub objects : List (List ℕ)
  pub compiled : AreCompiled compilations objects
  pub linked : Linked objects text
  pub same_modules : HaveSameModules compilations
  pub means : MeansSources (sources_of compilations) text
  -- and it means the same of the sources in any order, as the words of a link line may stand
  pub in_any_order : (others : List (List ℕ)) → IsPermutation (sources_of compilations) others → MeansSources others text

unfoldable pub LinkKeepsMeaning : Type 0
LinkKeepsMeaning = (compilations : List Compilation) (objects : List (List ℕ)) (text : List ℕ) → AreCompiled compilations objects → Linked objects text → IsLinkedFrom compilations text
