-- The module of a source of proper data is well formed, and its interface has a spelling.
use Rattle.std.proofs.Common.{◌≡◌, ℕ, true, List, [], map, length, Option, Some, None, refl, sym, ap, ◌∙◌}
use Rattle.std.proofs.lemmas.List.{length-map}
use Rattle.scheme_data.specs.Names.{are_distinct}
use Rattle.scheme_data.specs.Data.{Plains, AreProper}
use Rattle.iface_text.specs.Format.{IfaceTree, HasSpelling}
use Rattle.core_tree.specs.declared.tree.Use.{Use}
use Rattle.core_tree.specs.Tree.{ModuleTree}
use Rattle.core_tree.specs.WellFormed.{AreFunctions, IsMain, IsWellFormed}
use Rattle.resolver.specs.Drafts.{count, expressions, Definition, functions, top_scope, function_names, has_main, Draft, draft, interface_of, exported, exported_rows}
use Rattle.resolver.specs.Elaboration.{AreSpelled, uses, import_item, module_with, completed, elaborated}
use Rattle.resolver.proofs.FormedParts.{Holds, at_value}
use Rattle.resolver.proofs.FormedExpressions.{AreArguments, expressions_formed}
use Rattle.resolver.proofs.FormedDrafts.{AreOf, functions_formed, functions_of, names_of, take_as_many, IsDraft, draft_formed}
use Rattle.resolver.proofs.FormedRows.{export_rows, exports_there}
use Rattle.resolver.proofs.FormedUses.{items_formed, AreTaken, uses_taken, uses_formed}

main_there : (ds : List Definition) (m : ModuleTree) (main : Option (List ℕ)) → AreOf ds m.functions → has_main main ds ≡ true → IsMain m main
main_there ds m None h t = tt
main_there ds m (Some f) h t = sym (take_as_many ds m.functions h 1 f) ∙ t

with_uses : (d : Draft) (o : Option (List Use)) → IsDraft d → Holds (AreTaken d.head.imports d.outside) o → Holds IsWellFormed (module_with d o)
with_uses d None p t = tt
with_uses d (Some us) p t =
    let m : ModuleTree = record { name = d.head.name; imports = map import_item d.head.imports; functions = d.functions; forms = d.forms; uses = us; exports = exported_rows d.head; main = d.head.main } in
    let all : List (List ℕ) = function_names p.source in
    let are : AreOf p.source d.functions = at_value (AreOf p.source) (functions all d.outside d.head.main 0 p.source) d.functions p.built (functions_of all d.outside d.head.main 0 p.source) in
    let same : map (λ f. f.name) d.functions ≡ all = names_of p.source d.functions are in
    let many : length d.functions ≡ length all = sym (length-map d.functions (λ f. f.name)) ∙ ap length same in
    record {
      name = p.head.head.name;
      imports = items_formed d.head.imports p.head.head.items;
      functions =
          at_value (AreFunctions m) (functions all d.outside d.head.main 0 p.source) d.functions p.built
          (functions_formed all d.outside d.head.main m many t.called 0 p.source p.formed);
      forms =
          (at_value (AreArguments m [] (count p.evaluated)) (expressions (top_scope all d.outside) p.evaluated) d.forms p.forms
          (expressions_formed (top_scope all d.outside) m many t.called p.evaluated p.proper)).each;
      distinct = ap are_distinct same ∙ p.distinct;
      uses = uses_formed m d.head.imports us refl p.head.foreign t.given;
      once = t.once;
      ordered = t.ordered;
      rows = export_rows [] d.head.exports p.head.head.exports p.head.distinct;
      exported = exports_there p.source m d.head.exports are p.exported;
      main = main_there p.source m d.head.main are p.main;
    }

module_formed : (ifaces : List IfaceTree) (o : Option Draft) → AreSpelled ifaces → Holds IsDraft o → Holds IsWellFormed (completed ifaces o)
module_formed ifaces None s p = tt
module_formed ifaces (Some d) s p = with_uses d (uses ifaces d) p (uses_taken ifaces d.head.imports d.outside s p.head.head.items p.outside)

pub elaborated_is_formed : (ifaces : List IfaceTree) (forms : Plains) (m : ModuleTree) → AreProper forms → AreSpelled ifaces → elaborated ifaces forms ≡ Some m → IsWellFormed m
elaborated_is_formed ifaces forms m h s e = at_value IsWellFormed (elaborated ifaces forms) m e (module_formed ifaces (draft forms) s (draft_formed forms h))

interface_formed : (o : Option Draft) → Holds IsDraft o → Holds HasSpelling (interface_of o)
interface_formed None p = tt
interface_formed (Some d) p = record { module_is_name = p.head.head.name; are_rows = export_rows [] d.head.exports p.head.head.exports p.head.distinct }

pub exported_is_spelled : (forms : Plains) (i : IfaceTree) → AreProper forms → exported forms ≡ Some i → HasSpelling i
exported_is_spelled forms i h e = at_value HasSpelling (exported forms) i e (interface_formed (draft forms) (draft_formed forms h))
