-- Small modules and units with imports that are translations: functions of another module are called, or are needed and not called.
use Rattle.std.proofs.Common.{rules, ◌≡◌, ℕ, zero, suc, ◌<◌, List, [], ◌∷◌, ◌++◌, true, false, None, Some, refl, sym, ap, ◌∙◌, arith}
use Rattle.std.specs.Prelude.{codes, slice_index_or}
use Rattle.iface_text.specs.Lines.{untyped_row}
use Rattle.core_tree.specs.declared.tree.GlobalRef.TheVariants.{Used}
use Rattle.core_tree.specs.declared.tree.Use.{Use}
use Rattle.core_tree.specs.declared.tree.Use.TheVariants.{From, Need}
use Rattle.core_tree.specs.Tree.{Tree, Sequence, Call, Trees, none, more, FunctionTree, ModuleTree, Callee, row_callee, callee_of}
use Rattle.c_tree.specs.declared.tree.CTy.{CTy}
use Rattle.c_tree.specs.declared.tree.CTy.TheVariants.{Obj}
use Rattle.c_tree.specs.declared.tree.CVar.{CVar}
use Rattle.c_tree.specs.Code.{Code, done, assign, call, return, Item, declared, defined}
use Rattle.c_tree.specs.Names.{function_name, maker_name, initializer_name, unmangled, is_module_function, is_maker_name, is_initializer_name, is_function_name, is_local_name, is_variable_name, is_label_name}
use Rattle.c_meaning.specs.Plain.{is_sound}
use Rattle.plan_rules.specs.Representation.{raise_count, local}
use Rattle.plan_rules.specs.Translation.{Name, Tr, TrUnused, TrAllUnused, TrLast, TrArguments, callees, c_name_of, IsDeclared, outside_of, is_sound_with, Translated}
use Rattle.std.specs.Cmp.Lexicographic.{bytes_decides}
use Rattle.plan_rules.proofs.ExampleUnits.{int, f_name, go_name, x0, x1, x2, var, a_word, variable, call_first, a_local, calls_in, function, definition, empties, function_so, empties_so, declared_so}
use Rattle.plan_rules.proofs.ExampleDerivations.{then_so, miscounted_so, one_kept}

-- Modules and units -------------------------------------------------------------------------

abbrev pub a_name : Name
a_name = codes "a"

abbrev pub b_name : Name
b_name = codes "b"

abbrev g_name : Name
g_name = codes "g"

-- `(module b (import (NAME ... a)) (main go)) (define (go args) BODY)`, below other functions
abbrev importing : List Name → List Use → List FunctionTree → Tree → ModuleTree
importing names uses others body =
    record {
      name = b_name;
      imports = record { module_name = a_name; names = names } ∷ [];
      forms = none;
      functions = others ++ function go_name (record { 0 = 0 } ∷ []) body ∷ [];
      uses = uses;
      exports = [];
      main = Some go_name;
    }

-- `f` of `a`, of one parameter, is called
abbrev pub called_f : Use
called_f = From a_name (untyped_row f_name 1)

-- `g` of `a`, of two parameters, is not called
abbrev needed_g : Use
needed_g = Need a_name (untyped_row g_name 2)

abbrev pub f_callee : Callee
f_callee = row_callee a_name (untyped_row f_name 1)

abbrev pub used_f : Trees → Tree
used_f ts = Call (Used 0) ts

-- `extern obj f_a__f(obj);`
abbrev pub f_declared : Item
f_declared = declared Obj (function_name a_name f_name) (Obj ∷ [])

abbrev go_unit : List CVar → Code → List Item
go_unit locals code = defined (definition b_name go_name locals code) ∷ empties b_name

-- A call of an imported function ------------------------------------------------------------

-- Its value is the function's result, and what is needed besides is not declared
abbrev calling_f : ModuleTree
calling_f = importing (f_name ∷ g_name ∷ []) (called_f ∷ needed_g ∷ []) [] (used_f (more (int 7) none))

abbrev calling_code : Code
calling_code = assign x1 (a_word 7) (return (calls_in a_name f_name (local x1 ∷ [])) done)

abbrev calling_unit : List Item
calling_unit = f_declared ∷ go_unit (var Obj x1 ∷ []) calling_code

import_called : Translated calling_f calling_unit
unfolding Tr TrUnused TrAllUnused TrLast TrArguments is_sound_with function_name maker_name initializer_name unmangled is_module_function is_maker_name is_initializer_name is_function_name is_local_name is_variable_name is_label_name
import_called = record { functions = (function_so (refl, one_kept x1 refl refl), empties_so refl); declarations = (declared_so (callees calling_f) 1 f_callee refl, tt); named = search rules; sound = refl }

-- The name that it calls is defined elsewhere, so that the unit alone breaks a rule of C
its_name_is_outside : outside_of calling_f ≡ function_name a_name f_name ∷ []
its_name_is_outside = refl

unit_alone_is_unsound : is_sound calling_unit ≡ false
unfolding is_sound function_name maker_name initializer_name is_local_name
unit_alone_is_unsound = refl

-- Functions of the module have numbers of their own: `(f (h args))`, where `h` is the module's
abbrev same : FunctionTree
same = function (codes "h") (record { 0 = 0 } ∷ []) (variable 0)

abbrev mixed_body : Tree
mixed_body = used_f (more (call_first (more (variable 0) none)) none)

abbrev mixed : ModuleTree
mixed = importing (f_name ∷ []) (called_f ∷ []) (same ∷ []) mixed_body

abbrev mixed_code : Code
mixed_code = assign x1 (a_local x0) (assign x2 (calls_in b_name (codes "h") (local x1 ∷ [])) (return (calls_in a_name f_name (local x2 ∷ [])) done))

abbrev mixed_unit : List Item
mixed_unit = defined (definition b_name (codes "h") [] (return (a_local x0) done)) ∷ f_declared ∷ go_unit (var Obj x1 ∷ var Obj x2 ∷ []) mixed_code

both_called : Translated mixed mixed_unit
unfolding Tr TrUnused TrAllUnused TrLast TrArguments is_sound_with function_name maker_name initializer_name unmangled is_module_function is_maker_name is_initializer_name is_function_name is_local_name is_variable_name is_label_name
both_called = record {
  functions = (function_so (refl, refl), (function_so (refl, one_kept x2 refl (refl, one_kept x1 refl (refl, refl))), empties_so refl));
  declarations = (declared_so (callees mixed) 2 f_callee refl, tt);
  named = search rules;
  sound = refl;
}

-- The wrong number of arguments is known from the row
abbrev miscalling : ModuleTree
miscalling = importing (f_name ∷ []) (called_f ∷ []) [] (Sequence (more (used_f none) (more (int 0) none)))

abbrev miscalling_code : Code
miscalling_code = call (raise_count 1) (return (a_word 0) done)

import_miscalled : Translated miscalling (f_declared ∷ go_unit [] miscalling_code)
unfolding Tr TrUnused TrAllUnused TrLast TrArguments is_sound_with function_name maker_name initializer_name unmangled is_module_function is_maker_name is_initializer_name is_function_name is_local_name is_variable_name is_label_name
import_miscalled = record { functions = (function_so (then_so _ (miscounted_so [] (refl, refl)) refl), empties_so refl); declarations = (declared_so (callees miscalling) 1 f_callee refl, tt); named = search rules; sound = refl }

-- An imported function that is needed and not called ----------------------------------------

abbrev needing : ModuleTree
needing = importing (g_name ∷ []) (needed_g ∷ []) [] (int 7)

import_needed : Translated needing (go_unit [] (return (a_word 7) done))
unfolding Tr TrUnused TrAllUnused TrLast TrArguments is_sound_with function_name maker_name initializer_name unmangled is_module_function is_maker_name is_initializer_name is_function_name is_local_name is_variable_name is_label_name
import_needed = record { functions = (function_so refl, empties_so refl); declarations = tt; named = search rules; sound = refl }

needed_is_not_callable : callee_of needing (Used 0) ≡ None
needed_is_not_callable = refl

nothing_is_outside : outside_of needing ≡ []
nothing_is_outside = refl

-- No unit of the module declares it
needed_is_not_declared : (t : CTy) (params : List CTy) → IsDeclared (callees needing) t (function_name a_name g_name) params → ⊥
unfolding function_name maker_name initializer_name
needed_is_not_declared t params d = go d.is_one.0 d.callee d.is_one.1 d.is_one.2 d.named
  where
    go : (k : ℕ) (c : Callee) → k < 1 → slice_index_or (callees needing) k c ≡ c → function_name a_name g_name ≡ c_name_of c → ⊥
    go zero c low at named =
        let bad : false ≡ true = (bytes_decides (function_name a_name g_name) (function_name b_name go_name)).1 (named ∙ sym (ap c_name_of at)) in absurd (cc)
    go (suc k) c low at named = absurd (omega (arith, low))
