-- What objects are linked to means what their sources mean together.
use Rattle.std.proofs.Common.{◌≡◌, ℕ, List, [], ◌∷◌, map, Some, refl, sym, ap, ap₂, ◌∙◌, subst}
use Rattle.std.specs.List.{AllByRecursion as Each}
use Rattle.std.specs.List.Sorted.{IsPermutation}
use Rattle.std.proofs.lemmas.List.Sorted.{IsPermutation-refl}
use Rattle.std.proofs.lemmas.Option.{same_Some}
use Rattle.core_tree.specs.Tree.{ModuleTree}
use Rattle.core_tree.specs.WellFormed.{IsWellFormed}
use Rattle.meaning.specs.Order.{imports_of, IsOrder, root_of, chosen}
use Rattle.meaning.specs.Program.{src, main_of, IsProgram}
use Rattle.c_meaning.proofs.PlainChecked.{plain_is_checked, plain_is_runnable}
use Rattle.plan_rules.specs.Joined.{joined}
use Rattle.simulation.specs.Law.{IsFaithful, KeepsMeaning}
use Rattle.object_text.specs.Format.{ObjectTree}
use Rattle.unit_compile.specs.Compilation.{Compiled}
use Rattle.linker.specs.Links.{AreObjectTexts, Linked, part_of}
use Rattle.whole_program.specs.Sources.{imports_in, MeansSources}
use Rattle.whole_program.specs.Law.{Compilation, AreCompiled, sources_of, AreModulesAsCompiled, HaveSameModules, LinkKeepsMeaning}
use Rattle.whole_program.proofs.Programs.{AreLinkable, is_program}
use Rattle.whole_program.proofs.Objects.{AreObjectsOf, same_parts, same_names, chosen_objects, translated, same_main, linkable}
use Rattle.whole_program.proofs.Readings.{IsReadAs, AreReadAs, modules_of, one_modules_of}
use Rattle.whole_program.proofs.AnyOrder.{program_in_any_order}

-- Compilations ------------------------------------------------------------------------------

-- the modules of sources, and the objects of these texts
record Units (sources texts : List (List ℕ)) : Type 0 where
  modules : List ModuleTree
  read : AreReadAs sources modules
  formed : Each IsWellFormed modules
  objects : List ObjectTree
  texts_are : AreObjectTexts texts objects
  are : AreObjectsOf modules objects

read_as : (source : List ℕ) (interfaces : List (List ℕ)) (text : List ℕ) → (c : Compiled source interfaces text) → IsReadAs source c.module_tree
read_as source interfaces text c = record {
  forms = c.is_module.forms;
  read = c.is_module.read;
  read_once = λ others is. sym (c.read_once c.is_module.forms c.is_module.read) ∙ c.read_once others is;
  interfaces = c.is_module.interfaces;
  is = c.is_module.is;
}

units : (cs : List Compilation) (texts : List (List ℕ)) → AreCompiled cs texts → Units (sources_of cs) texts
units [] [] h = record { modules = []; read = tt; formed = tt; objects = []; texts_are = tt; are = tt }
units [] (text ∷ texts) h = absurd h
units (c ∷ cs) [] h = absurd h
units (c ∷ cs) (text ∷ texts) h =
    let first = h.0 in
    let rest = units cs texts h.1 in
    record {
      modules = first.module_tree ∷ rest.modules;
      read = (read_as c.source c.interfaces text first, rest.read);
      formed = (first.formed, rest.formed);
      objects = first.object ∷ rest.objects;
      texts_are = (first.is_text, rest.texts_are);
      are = (first.is_object, rest.are);
    }

-- Links -------------------------------------------------------------------------------------

-- what is linked from the objects of modules
module _ (law : KeepsMeaning) (sources texts : List (List ℕ)) (text : List ℕ) (l : Linked texts text) (ms : List ModuleTree) (read : AreReadAs sources ms) (formed : Each IsWellFormed ms) (are : AreObjectsOf ms l.objects) where
  link : AreLinkable ms
  link = linkable ms l.objects are formed l.accepted

  is_order : IsOrder (imports_in ms) l.root l.order
  is_order = subst (λ g. IsOrder g l.root l.order) (ap₂ imports_of (same_names ms l.objects are) (same_parts (λ (o : ObjectTree). o.imports) (λ (m : ModuleTree). m.imports) (λ m o i. i.imports) ms l.objects are)) l.is_order

  is_root : root_of (map (λ m. m.main) ms) ≡ Some l.root
  is_root = ap root_of (sym (same_parts (λ (o : ObjectTree). o.main) (λ (m : ModuleTree). m.main) (λ m o i. i.main) ms l.objects are)) ∙ l.is_root

  chosen_are : AreObjectsOf (chosen ms l.order) (chosen l.objects l.order)
  chosen_are = chosen_objects ms l.objects are l.order

  is_main : main_of (chosen ms l.order) ≡ Some l.main
  is_main = sym (same_main (chosen ms l.order) (chosen l.objects l.order) chosen_are) ∙ l.is_main

  program : IsProgram (chosen ms l.order)
  program = is_program ms link l.root l.order is_order l.main is_main

  faithful : IsFaithful (chosen ms l.order) (map part_of (chosen l.objects l.order)) l.main
  unfolding KeepsMeaning
  faithful =
      subst (IsFaithful (chosen ms l.order) (map part_of (chosen l.objects l.order))) (same_Some program.main l.main (sym program.is_main ∙ is_main))
      (law (chosen ms l.order) (map part_of (chosen l.objects l.order)) program (translated (chosen ms l.order) (chosen l.objects l.order) chosen_are))

  -- in whatever order the sources stand
  means : (others : List (List ℕ)) → IsPermutation sources others → MeansSources others text
  means others p =
      let have = program_in_any_order sources ms read link l.root is_root l.order is_order others p in
      let items = joined (map part_of (chosen l.objects l.order)) l.main in
      record {
        items = items;
        text = l.is_text;
        checked = plain_is_checked items faithful.named faithful.plain;
        runnable = plain_is_runnable items faithful.named faithful.plain;
        program = chosen ms l.order;
        is_program = have.is_program;
        same = λ programs is input args turns. faithful.same input args turns ∙ ap (λ (q : List ModuleTree). src q input args turns) (sym (have.only programs is));
      }

-- Modules -----------------------------------------------------------------------------------

as_compiled : (cs : List Compilation) (texts : List (List ℕ)) (compiled : AreCompiled cs texts) → AreModulesAsCompiled cs (units cs texts compiled).modules
unfolding units
as_compiled [] [] h = tt
as_compiled [] (text ∷ texts) h = absurd h
as_compiled (c ∷ cs) [] h = absurd h
as_compiled (c ∷ cs) (text ∷ texts) h = (h.0.is_module, as_compiled cs texts h.1)

only_compiled : (cs : List Compilation) (texts : List (List ℕ)) (compiled : AreCompiled cs texts) → (others : List ModuleTree) → AreModulesAsCompiled cs others → others ≡ (units cs texts compiled).modules
unfolding units
only_compiled [] [] h [] its = refl
only_compiled [] [] h (n ∷ ns) its = absurd its
only_compiled [] (text ∷ texts) h others its = absurd h
only_compiled (c ∷ cs) [] h others its = absurd h
only_compiled (c ∷ cs) (text ∷ texts) h [] its = absurd its
only_compiled (c ∷ cs) (text ∷ texts) h (n ∷ ns) its = ap₂ (λ x xs. x ∷ xs) (h.0.only n its.0) (only_compiled cs texts h.1 ns its.1)

same_modules : (cs : List Compilation) (texts : List (List ℕ)) (compiled : AreCompiled cs texts) → AreLinkable (units cs texts compiled).modules → HaveSameModules cs
same_modules cs texts compiled link =
    let all = units cs texts compiled in
    record {
      modules = all.modules;
      as_compiled = as_compiled cs texts compiled;
      as_now = modules_of (sources_of cs) all.modules all.read link;
      only_compiled = only_compiled cs texts compiled;
      only_now = one_modules_of (sources_of cs) all.modules all.read link;
    }

pub keeps : KeepsMeaning → LinkKeepsMeaning
unfolding LinkKeepsMeaning
keeps law cs texts text compiled l =
    let all = units cs texts compiled in
    let are : AreObjectsOf all.modules l.objects = subst (AreObjectsOf all.modules) (l.are_objects.only all.objects all.texts_are) all.are in
    let means_all = means law (sources_of cs) texts text l all.modules all.read all.formed are in
    record {
      objects = texts;
      compiled = compiled;
      linked = l;
      same_modules = same_modules cs texts compiled (linkable all.modules l.objects are all.formed l.accepted);
      means = means_all (sources_of cs) (IsPermutation-refl (sources_of cs));
      in_any_order = means_all;
    }
