-- Small modules and units with calls that are translations: where a call's value goes, what its arguments are, and how many.
use Rattle.std.proofs.Common.{rules, ◌≡◌, List, [], ◌∷◌, true, refl}
use Rattle.std.specs.Prelude.{codes}
use Rattle.base_io.specs.declared.end.End.TheVariants.{Ended, Raised, Spent}
use Rattle.scheme_data.specs.Decimal.{decimal_text}
use Rattle.built_table.specs.declared.primitives.Primitive.TheVariants.{Display}
use Rattle.core_tree.specs.Tree.{Tree, Sequence, none, more, FunctionTree, ModuleTree}
use Rattle.c_tree.specs.Operations.{primitive_op}
use Rattle.c_tree.specs.declared.tree.CTy.TheVariants.{Obj, Long}
use Rattle.c_tree.specs.declared.tree.CVar.{CVar}
use Rattle.c_tree.specs.Code.{Code, done, assign, call, return, Item, declared, defined}
use Rattle.c_tree.specs.Names.{function_name, maker_name, initializer_name, unmangled, is_module_function, is_maker_name, is_initializer_name, is_function_name, is_local_name, is_variable_name, is_label_name}
use Rattle.c_tree.specs.Spelling.{NamedItems}
use Rattle.c_meaning.specs.Program.{cm}
use Rattle.plan_rules.specs.Joined.{joined}
use Rattle.plan_rules.specs.Representation.{raise_count, call_of, operation, local}
use Rattle.plan_rules.specs.Translation.{Tr, TrUnused, TrAllUnused, TrLast, TrArguments, is_sound_with, Translated}
use Rattle.plan_rules.proofs.ExampleUnits.{int, sum_of, shown, f_name, x0, x1, x2, x3, x4, calls, var, plus, boxed, a_number, a_word, variable, only, call_first, a_local, calls_function, function, below, one_word, unit, linked, Body, function_so, empties_so, recursive_so}
use Rattle.plan_rules.proofs.ExampleDerivations.{then_so, made_so, held, miscounted_so, one_so, one_kept, two_kept}

-- Calls of `(define (f n) n)` ---------------------------------------------------------------

abbrev same : FunctionTree
same = function f_name (record { 0 = 0 } ∷ []) (variable 0)

abbrev calling : Tree → ModuleTree
calling body = below (same ∷ []) body

abbrev units : List CVar → Code → List Item
units locals code = defined (one_word f_name [] (return (a_local x0) done)) ∷ unit locals code

calling_so : {locals : List CVar} {body : Tree} {code : Code} → Body (calling body) locals body code → NamedItems (units locals code) → is_sound_with [] (units locals code) ≡ true → Translated (calling body) (units locals code)
unfolding Tr TrUnused TrAllUnused TrLast TrArguments
calling_so translated named sound = record { functions = (function_so (refl, refl), (function_so translated, empties_so refl)); declarations = tt; named = named; sound = sound }

abbrev f_of : Tree → Tree
f_of t = call_first (more t none)

-- Its value is the function's result
abbrev tail_code : Code
tail_code = assign x1 (a_word 7) (return (calls_function f_name (local x1 ∷ [])) done)

call_result : Translated (calling (f_of (int 7))) (units (var Obj x1 ∷ []) tail_code)
unfolding Tr TrUnused TrAllUnused TrLast TrArguments is_sound_with function_name maker_name initializer_name unmangled is_module_function is_maker_name is_initializer_name is_function_name is_local_name is_variable_name is_label_name
call_result = calling_so (refl, one_kept x1 refl refl) (search rules) refl

-- Its value goes to a local
abbrev local_code : Code
local_code = assign x1 (a_word 7) (assign x2 (calls_function f_name (local x1 ∷ [])) (return (calls (primitive_op Display) (local x2 ∷ [])) done))

call_shown : Translated (calling (shown (f_of (int 7)))) (units (var Obj x1 ∷ var Obj x2 ∷ []) local_code)
unfolding Tr TrUnused TrAllUnused TrLast TrArguments is_sound_with function_name maker_name initializer_name unmangled is_module_function is_maker_name is_initializer_name is_function_name is_local_name is_variable_name is_label_name
call_shown = calling_so (refl, one_kept x2 refl (refl, one_kept x1 refl refl)) (search rules) refl

-- Nobody takes its value
abbrev unused_call : Tree
unused_call = Sequence (more (f_of (variable 0)) (more (int 0) none))

abbrev unused_code : Code
unused_code = assign x1 (a_local x0) (call (call_of (function_name (codes "hello") f_name) (local x1 ∷ [])) (return (a_word 0) done))

call_unused : Translated (calling unused_call) (units (var Obj x1 ∷ []) unused_code)
unfolding Tr TrUnused TrAllUnused TrLast TrArguments is_sound_with function_name maker_name initializer_name unmangled is_module_function is_maker_name is_initializer_name is_function_name is_local_name is_variable_name is_label_name
call_unused = calling_so (then_so _ (one_kept x1 refl (refl, refl)) refl) (search rules) refl

-- Its argument comes as a number, and is boxed
abbrev boxed_locals : List CVar
boxed_locals = var Long x1 ∷ var Long x2 ∷ var Long x3 ∷ var Obj x4 ∷ []

abbrev boxed_code : Code
boxed_code = assign x1 (a_number 1) (assign x2 (a_number 2) (assign x3 (plus x1 x2) (assign x4 (boxed x3) (return (calls_function f_name (local x4 ∷ [])) done))))

call_of_sum : Translated (calling (f_of (sum_of (int 1) (int 2)))) (units boxed_locals boxed_code)
unfolding Tr TrUnused TrAllUnused TrLast TrArguments is_sound_with function_name maker_name initializer_name unmangled is_module_function is_maker_name is_initializer_name is_function_name is_local_name is_variable_name is_label_name
call_of_sum = calling_so (refl, one_so x3 x4 _ refl (refl, two_kept x1 x2 _ refl refl refl) (made_so refl)) (search rules) refl

-- The wrong number of arguments -------------------------------------------------------------

-- Too many: they are evaluated, and nothing comes after the error
abbrev two_words : Tree
two_words = call_first (more (int 1) (more (int 2) none))

abbrev many_code : Code
many_code = assign x1 (a_word 1) (assign x2 (a_word 2) (call (raise_count 1) done))

too_many : Translated (calling two_words) (units (var Obj x1 ∷ var Obj x2 ∷ []) many_code)
unfolding Tr TrUnused TrAllUnused TrLast TrArguments is_sound_with function_name maker_name initializer_name unmangled is_module_function is_maker_name is_initializer_name is_function_name is_local_name is_variable_name is_label_name
too_many = calling_so (refl, miscounted_so (x1 ∷ x2 ∷ []) (held x1 _ refl refl (held x2 _ refl refl (refl, refl)))) (search rules) refl

-- Too few, and nobody takes the value
abbrev too_few_parts : Tree
too_few_parts = Sequence (more (call_first none) (more (int 0) none))

abbrev few_code : Code
few_code = call (raise_count 1) (return (a_word 0) done)

too_few : Translated (calling too_few_parts) (units [] few_code)
unfolding Tr TrUnused TrAllUnused TrLast TrArguments is_sound_with function_name maker_name initializer_name unmangled is_module_function is_maker_name is_initializer_name is_function_name is_local_name is_variable_name is_label_name
too_few = calling_so (then_so _ (miscounted_so [] (refl, refl)) refl) (search rules) refl

-- `(define (f n) (display n) (f n))` --------------------------------------------------------

abbrev endless_body : Tree
endless_body = Sequence (more (shown (variable 0)) (more (f_of (variable 0)) none))

abbrev pub endless_function : FunctionTree
endless_function = function f_name (record { 0 = 0 } ∷ []) endless_body

abbrev pub start_body : Tree
start_body = only (f_of (int 7))

abbrev pub endless : ModuleTree
endless = below (endless_function ∷ []) start_body

abbrev again_code : Code
again_code = assign x2 (a_local x0) (return (calls_function f_name (local x2 ∷ [])) done)

abbrev endless_code : Code
endless_code = assign x1 (a_local x0) (call (operation (primitive_op Display) (local x1 ∷ [])) again_code)

-- it is declared before its definition
abbrev pub endless_unit : List Item
endless_unit = declared Obj (function_name (codes "hello") f_name) (Obj ∷ []) ∷ defined (one_word f_name (var Obj x1 ∷ var Obj x2 ∷ []) endless_code) ∷ unit (var Obj x1 ∷ []) tail_code

pub calls_itself : Translated endless endless_unit
unfolding Tr TrUnused TrAllUnused TrLast TrArguments is_sound_with function_name maker_name initializer_name unmangled is_module_function is_maker_name is_initializer_name is_function_name is_local_name is_variable_name is_label_name
calls_itself = recursive_so (then_so _ (one_kept x1 refl (refl, refl)) (refl, one_kept x2 refl (refl, refl))) (refl, one_kept x1 refl refl) (search rules) refl

-- Linked programs ---------------------------------------------------------------------------

call_prints : cm (linked (units (var Obj x1 ∷ var Obj x2 ∷ []) local_code)) [] [] 2 ≡ record { output = codes "7"; end = Ended 0 }
unfolding cm joined decimal_text function_name maker_name initializer_name
call_prints = refl

sum_is_the_status : cm (linked (units boxed_locals boxed_code)) [] [] 2 ≡ record { output = []; end = Ended 3 }
unfolding cm joined decimal_text function_name maker_name initializer_name
sum_is_the_status = refl

wrong_number : cm (linked (units (var Obj x1 ∷ var Obj x2 ∷ []) many_code)) [] [] 2 ≡ record { output = []; end = Raised 2 (codes "1") }
unfolding cm joined decimal_text function_name maker_name initializer_name
wrong_number = refl

for_ever : cm (linked endless_unit) [] [] 4 ≡ record { output = codes "777"; end = Spent }
unfolding cm joined decimal_text function_name maker_name initializer_name
for_ever = refl
