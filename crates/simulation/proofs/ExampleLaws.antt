-- The law, at the examples of translations.
use Rattle.std.proofs.Common.{rules, ◌≡◌, List, [], ◌∷◌, Some, refl, ap, arith}
use Rattle.std.specs.Prelude.{codes, map, IsTrue}
use Rattle.scheme_data.specs.Names.{are_distinct}
use Rattle.core_tree.specs.Tree.{Tree, FunctionTree, function_named}
use Rattle.core_tree.specs.WellFormed.{takes_as_many, AreFunctions, IsWellFormed}
use Rattle.meaning.specs.Procedures.{found_in}
use Rattle.meaning.specs.Program.{IsProgram}
use Rattle.c_tree.specs.declared.tree.CTy.TheVariants.{Obj}
use Rattle.c_tree.specs.Code.{Item}
use Rattle.plan_rules.specs.Translation.{Translated}
use Rattle.plan_rules.proofs.BranchExamples as branches
use Rattle.plan_rules.proofs.CallExamples as calls
use Rattle.plan_rules.proofs.Examples as nodes
use Rattle.plan_rules.proofs.ExampleUnits.{go_name, x1, var, function, below, hello, unit, part, go_of}
use Rattle.plan_rules.proofs.FormExamples as forms
use Rattle.plan_rules.proofs.ImportExamples.{b_name}
use Rattle.simulation.specs.Law.{KeepsMeaning, IsFaithful}
use Rattle.simulation.proofs.Faithful.{keeps_meaning}

-- the law, of a module alone whose functions are well formed
faithful_so : (others : List FunctionTree) (body : Tree) (items : List Item) → AreFunctions (below others body) (below others body).functions → IsTrue (are_distinct (map (λ f. f.name) (below others body).functions))
    → function_named (below others body).functions go_name ≡ Some (function go_name (record { 0 = 0 } ∷ []) body) → Translated (below others body) items → IsFaithful (below others body ∷ []) (part (codes "hello") items ∷ []) (go_of (codes "hello"))
unfolding KeepsMeaning
faithful_so others body items functions distinct found translated =
    let m = below others body in
    let is : IsProgram (m ∷ []) = record {
      formed = (
        record { name = record { some = omega arith; short = omega arith; bytes = refl; front = refl }; imports = tt; functions = functions; forms = tt; distinct = distinct; uses = tt; once = refl; ordered = refl; rows = tt; exported = refl; main = ap (takes_as_many 1) found },
        tt,
      );
      distinct = refl;
      linked = refl;
      main = go_of (codes "hello");
      is_main = refl;
      function = record { home = m; function = function go_name (record { 0 = 0 } ∷ []) body };
      is = ap (found_in m) found;
      one = (record { 0 = 0 }, refl);
    } in
    keeps_meaning (m ∷ []) (part (codes "hello") items ∷ []) is (record { named = refl; translated = translated }, tt)

-- expressions in order
nodes_faithful : IsFaithful (hello nodes.parts ∷ []) (part (codes "hello") (unit (var Obj x1 ∷ []) nodes.parts_code) ∷ []) (go_of (codes "hello"))
nodes_faithful = faithful_so [] nodes.parts (unit (var Obj x1 ∷ []) nodes.parts_code) (record { name = search rules; body = search rules }, tt) refl refl nodes.unused_parts

-- a function that ends by an `if`
branches_faithful : IsFaithful (branches.counting ∷ []) (part (codes "hello") branches.counting_unit ∷ []) (go_of (codes "hello"))
branches_faithful =
    faithful_so (branches.counting_function ∷ []) branches.start_body branches.counting_unit (record { name = search rules; body = search rules }, (record { name = search rules; body = search rules }, tt)) refl refl branches.calls_in_a_block

-- a function that never ends
calls_faithful : IsFaithful (calls.endless ∷ []) (part (codes "hello") calls.endless_unit ∷ []) (go_of (codes "hello"))
calls_faithful = faithful_so (calls.endless_function ∷ []) calls.start_body calls.endless_unit (record { name = search rules; body = search rules }, (record { name = search rules; body = search rules }, tt)) refl refl calls.calls_itself

-- two modules with forms
exporting_formed : IsWellFormed forms.exporting
exporting_formed =
    record {
      name = search rules;
      imports = tt;
      functions = (record { name = search rules; body = search rules }, tt);
      forms = search rules;
      distinct = refl;
      uses = tt;
      once = refl;
      ordered = refl;
      rows = (record { is_name = search rules; is_new = refl; is_untyped = ((refl, tt), refl) }, tt);
      exported = refl;
      main = tt;
    }

importing_formed : IsWellFormed forms.importing
importing_formed =
    record {
      name = search rules;
      imports = (record { module_name = search rules; names = (search rules, tt); some = refl }, tt);
      functions = (record { name = search rules; body = search rules }, tt);
      forms = search rules;
      distinct = refl;
      uses = (record { module_name = search rules; foreign = refl; name = search rules; untyped = ((refl, tt), refl); imported = refl }, tt);
      once = refl;
      ordered = refl;
      rows = tt;
      exported = refl;
      main = refl;
    }

abbrev are_program : IsProgram forms.modules
are_program = record { formed = (exporting_formed, (importing_formed, tt)); distinct = refl; linked = refl; main = go_of b_name; is_main = refl; function = _; is = refl; one = (record { 0 = 0 }, refl) }

forms_faithful : IsFaithful forms.modules forms.parts (go_of b_name)
unfolding KeepsMeaning
forms_faithful = keeps_meaning forms.modules forms.parts are_program (record { named = refl; translated = forms.forms_evaluated }, (record { named = refl; translated = forms.import_called_by_a_form }, tt))
