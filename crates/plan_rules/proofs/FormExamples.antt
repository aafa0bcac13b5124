-- Small modules and units with expressions among their top-level forms that are translations: the initialisation has their statements.
use Rattle.std.proofs.Common.{rules, ◌≡◌, List, [], ◌∷◌, None, Some, refl}
use Rattle.std.specs.Prelude.{codes}
use Rattle.base_io.specs.declared.end.End.TheVariants.{Ended, Spent}
use Rattle.scheme_data.specs.Decimal.{decimal_text}
use Rattle.built_table.specs.declared.primitives.Primitive.TheVariants.{Display}
use Rattle.iface_text.specs.Lines.{untyped_row}
use Rattle.core_tree.specs.Tree.{Tree, If, Trees, none, more, FunctionTree, ModuleTree}
use Rattle.c_tree.specs.declared.op.Op.TheVariants.{UnboxLong}
use Rattle.c_tree.specs.Operations.{primitive_op}
use Rattle.c_tree.specs.declared.tree.CTy.TheVariants.{Obj, Long, Int}
use Rattle.c_tree.specs.declared.tree.CVar.{CVar}
use Rattle.c_tree.specs.Code.{Code, done, assign, call, return, test, Item, defined}
use Rattle.c_tree.specs.Names.{function_name, maker_name, initializer_name, unmangled, is_module_function, is_maker_name, is_initializer_name, is_function_name, is_local_name, is_variable_name, is_label_name}
use Rattle.c_meaning.specs.Program.{cm}
use Rattle.plan_rules.specs.Joined.{Part, joined}
use Rattle.plan_rules.specs.Representation.{operation, local}
use Rattle.plan_rules.specs.Translation.{Tr, TrUnused, TrAllUnused, TrLast, TrArguments, callees, is_sound_with, Translated}
use Rattle.plan_rules.proofs.ExampleUnits.{int, sum_of, less_of, shown, f_name, go_name, x0, x1, x2, x3, x4, x5, x6, x7, calls, var, plus, is_less, boxed, a_number, a_word, variable, only, call_first, a_local, calls_in, function, definition, unspecified, last_items, part, go_of, function_so, forms_so, declared_so}
use Rattle.plan_rules.proofs.ExampleDerivations.{then_so, boxed_so, branch_so, one_kept, first_unboxed}
use Rattle.plan_rules.proofs.ImportExamples.{a_name, b_name, called_f, f_callee, used_f, f_declared}

-- Forms of a module with a function ---------------------------------------------------------

abbrev f_body : Tree
f_body = only (sum_of (variable 0) (int 1))

abbrev f_function : FunctionTree
f_function = function f_name (record { 0 = 0 } ∷ []) f_body

abbrev f_of : Tree → Tree
f_of t = call_first (more t none)

abbrev a_forms : Trees
a_forms = more (shown (int 1)) (more (If (less_of (f_of (int 0)) (int 2)) (shown (f_of (int 3))) (int 7)) none)

-- `(module a (export (f x))) (display 1) (define (f x) (+ x 1)) (if (< (f 0) 2) (display (f 3)) 7)`
abbrev pub exporting : ModuleTree
exporting = record { name = a_name; imports = []; functions = f_function ∷ []; forms = a_forms; uses = []; exports = untyped_row f_name 1 ∷ []; main = None }

abbrev f_locals : List CVar
f_locals = var Obj x1 ∷ var Long x2 ∷ var Long x3 ∷ var Long x4 ∷ []

abbrev f_code : Code
f_code = assign x1 (a_local x0) (assign x2 (a_number 1) (assign x3 (calls UnboxLong (local x1 ∷ [])) (assign x4 (plus x3 x2) (return (boxed x4) done))))

-- the initialisation has no parameter, so that its first local is `x0`
abbrev a_locals : List CVar
a_locals = var Obj x0 ∷ var Obj x1 ∷ var Obj x2 ∷ var Long x3 ∷ var Long x4 ∷ var Int x5 ∷ var Obj x6 ∷ var Obj x7 ∷ []

abbrev shown_code : Code
shown_code = assign x6 (a_word 3) (assign x7 (calls_in a_name f_name (local x6 ∷ [])) (call (operation (primitive_op Display) (local x7 ∷ [])) done))

abbrev branch_code : Code
branch_code = assign x1 (a_word 0) (assign x2 (calls_in a_name f_name (local x1 ∷ [])) (assign x3 (a_number 2) (assign x4 (calls UnboxLong (local x2 ∷ [])) (assign x5 (is_less x4 x3) (test (a_local x5) shown_code done unspecified)))))

abbrev a_code : Code
a_code = assign x0 (a_word 1) (call (operation (primitive_op Display) (local x0 ∷ [])) branch_code)

abbrev pub a_unit : List Item
a_unit = defined (definition a_name f_name f_locals f_code) ∷ last_items a_name a_locals a_code

pub forms_evaluated : Translated exporting a_unit
unfolding Tr TrUnused TrAllUnused TrLast TrArguments is_sound_with function_name maker_name initializer_name unmangled is_module_function is_maker_name is_initializer_name is_function_name is_local_name is_variable_name is_label_name
forms_evaluated = record {
  functions = (
    function_so (boxed_so x4 refl (refl, first_unboxed x1 x2 x3 _ refl refl (refl, refl) refl)),
    forms_so (then_so _ (one_kept x0 refl refl) (then_so _ (branch_so x5 _ _ refl (refl, first_unboxed x2 x3 x4 _ refl refl (refl, one_kept x1 refl refl) refl) (one_kept x7 refl (refl, one_kept x6 refl refl)) refl) refl)),
  );
  declarations = tt;
  named = search rules;
  sound = refl;
}

-- A form that calls a function of another module --------------------------------------------

-- `(module b (import (f a)) (main go)) (display (f 2)) (define (go args) 0)`
abbrev pub importing : ModuleTree
importing =
    record {
      name = b_name;
      imports = record { module_name = a_name; names = f_name ∷ [] } ∷ [];
      functions = function go_name (record { 0 = 0 } ∷ []) (only (int 0)) ∷ [];
      forms = more (shown (used_f (more (int 2) none))) none;
      uses = called_f ∷ [];
      exports = [];
      main = Some go_name;
    }

abbrev b_code : Code
b_code = assign x0 (a_word 2) (assign x1 (calls_in a_name f_name (local x0 ∷ [])) (call (operation (primitive_op Display) (local x1 ∷ [])) unspecified))

abbrev pub b_unit : List Item
b_unit = f_declared ∷ defined (definition b_name go_name [] (return (a_word 0) done)) ∷ last_items b_name (var Obj x0 ∷ var Obj x1 ∷ []) b_code

pub import_called_by_a_form : Translated importing b_unit
unfolding Tr TrUnused TrAllUnused TrLast TrArguments is_sound_with function_name maker_name initializer_name unmangled is_module_function is_maker_name is_initializer_name is_function_name is_local_name is_variable_name is_label_name
import_called_by_a_form = record { functions = (function_so refl, forms_so (then_so _ (one_kept x1 refl (refl, one_kept x0 refl refl)) refl)); declarations = (declared_so (callees importing) 1 f_callee refl, tt); named = search rules; sound = refl }

-- The linked program ------------------------------------------------------------------------

abbrev pub modules : List ModuleTree
modules = exporting ∷ importing ∷ []

abbrev pub parts : List Part
parts = part a_name a_unit ∷ part b_name b_unit ∷ []

-- the forms of `a`, then that of `b`; `f` is called three times, and `go` once
forms_print_in_order : cm (joined parts (go_of b_name)) [] [] 4 ≡ record { output = codes "143"; end = Ended 0 }
unfolding cm joined decimal_text function_name maker_name initializer_name
forms_print_in_order = refl

calls_in_forms_take_turns : cm (joined parts (go_of b_name)) [] [] 2 ≡ record { output = codes "14"; end = Spent }
unfolding cm joined decimal_text function_name maker_name initializer_name
calls_in_forms_take_turns = refl
