-- Small modules and units that are translations, one for each kind of node but calls, to see that the relation holds of what it should.
use Rattle.std.proofs.Common.{rules, ◌≡◌, List, [], ◌∷◌, refl}
use Rattle.std.specs.Prelude.{codes}
use Rattle.base_io.specs.declared.end.End.TheVariants.{Ended, Raised}
use Rattle.scheme_data.specs.Decimal.{decimal_text}
use Rattle.built_table.specs.declared.primitives.Primitive.TheVariants.{Display, Newline}
use Rattle.core_tree.specs.Tree.{Tree, Sequence, none, more}
use Rattle.c_tree.specs.declared.op.Op.TheVariants.{UnboxLong}
use Rattle.c_tree.specs.Operations.{primitive_op}
use Rattle.c_tree.specs.declared.tree.CTy.TheVariants.{Obj, Long}
use Rattle.c_tree.specs.declared.tree.CVar.{CVar}
use Rattle.c_tree.specs.Code.{Code, done, assign, call, return}
use Rattle.c_tree.specs.Names.{function_name, maker_name, initializer_name, unmangled, is_module_function, is_maker_name, is_initializer_name, is_function_name, is_local_name, is_variable_name, is_label_name}
use Rattle.c_meaning.specs.Program.{cm}
use Rattle.plan_rules.specs.Joined.{joined}
use Rattle.plan_rules.specs.Representation.{operation, local}
use Rattle.plan_rules.specs.Translation.{Tr, TrUnused, TrAllUnused, TrLast, TrArguments, is_sound_with, Translated}
use Rattle.plan_rules.proofs.ExampleUnits.{int, sum_of, shown, line_end, x0, x1, x2, x3, x4, x5, calls, var, plus, boxed, a_number, a_word, variable, a_local, hello, unit, linked, translated_so}
use Rattle.plan_rules.proofs.ExampleDerivations.{then_so, boxed_so, made_so, none_so, one_so, one_kept, two_kept, first_unboxed}

-- Nodes -------------------------------------------------------------------------------------

-- A constant, as a word
constant_word : Translated (hello (int 42)) (unit [] (return (a_word 42) done))
unfolding Tr TrUnused TrAllUnused TrLast TrArguments is_sound_with function_name maker_name initializer_name unmangled is_module_function is_maker_name is_initializer_name is_function_name is_local_name is_variable_name is_label_name
constant_word = translated_so refl (search rules) refl

-- Constants, as numbers, and a sum as the function's result
abbrev sum_locals : List CVar
sum_locals = var Long x1 ∷ var Long x2 ∷ var Long x3 ∷ []

abbrev sum_code : Code
sum_code = assign x1 (a_number 40) (assign x2 (a_number 2) (assign x3 (plus x1 x2) (return (boxed x3) done)))

sum_result : Translated (hello (sum_of (int 40) (int 2))) (unit sum_locals sum_code)
unfolding Tr TrUnused TrAllUnused TrLast TrArguments is_sound_with function_name maker_name initializer_name unmangled is_module_function is_maker_name is_initializer_name is_function_name is_local_name is_variable_name is_label_name
sum_result = translated_so (boxed_so x3 refl (refl, two_kept x1 x2 _ refl refl refl)) (search rules) refl

-- A sum of what `display` gives: its word is unboxed, after both arguments
abbrev unboxed_locals : List CVar
unboxed_locals = var Obj x1 ∷ var Obj x2 ∷ var Long x3 ∷ var Long x4 ∷ var Long x5 ∷ []

abbrev unboxed_code : Code
unboxed_code = assign x1 (a_word 1) (assign x2 (calls (primitive_op Display) (local x1 ∷ [])) (assign x3 (a_number 2) (assign x4 (calls UnboxLong (local x2 ∷ [])) (assign x5 (plus x4 x3) (return (boxed x5) done)))))

sum_of_display : Translated (hello (sum_of (shown (int 1)) (int 2))) (unit unboxed_locals unboxed_code)
unfolding Tr TrUnused TrAllUnused TrLast TrArguments is_sound_with function_name maker_name initializer_name unmangled is_module_function is_maker_name is_initializer_name is_function_name is_local_name is_variable_name is_label_name
sum_of_display = translated_so (boxed_so x5 refl (refl, first_unboxed x2 x3 x4 _ refl refl (refl, one_kept x1 refl refl) refl)) (search rules) refl

-- `display` of a sum: its number is boxed
abbrev boxed_locals : List CVar
boxed_locals = var Long x1 ∷ var Long x2 ∷ var Long x3 ∷ var Obj x4 ∷ []

abbrev boxed_code : Code
boxed_code = assign x1 (a_number 1) (assign x2 (a_number 2) (assign x3 (plus x1 x2) (assign x4 (boxed x3) (return (calls (primitive_op Display) (local x4 ∷ [])) done))))

display_of_sum : Translated (hello (shown (sum_of (int 1) (int 2)))) (unit boxed_locals boxed_code)
unfolding Tr TrUnused TrAllUnused TrLast TrArguments is_sound_with function_name maker_name initializer_name unmangled is_module_function is_maker_name is_initializer_name is_function_name is_local_name is_variable_name is_label_name
display_of_sum = translated_so (refl, one_so x3 x4 _ refl (refl, two_kept x1 x2 _ refl refl refl) (made_so refl)) (search rules) refl

-- A body whose first parts nobody takes: a constant has no statement
abbrev pub parts : Tree
parts = Sequence (more (int 7) (more (shown (int 1)) (more line_end (more (int 0) none))))

abbrev pub parts_code : Code
parts_code = assign x1 (a_word 1) (call (operation (primitive_op Display) (local x1 ∷ [])) (call (operation (primitive_op Newline) []) (return (a_word 0) done)))

pub unused_parts : Translated (hello parts) (unit (var Obj x1 ∷ []) parts_code)
unfolding Tr TrUnused TrAllUnused TrLast TrArguments is_sound_with function_name maker_name initializer_name unmangled is_module_function is_maker_name is_initializer_name is_function_name is_local_name is_variable_name is_label_name
unused_parts = translated_so (then_so _ refl (then_so _ (one_kept x1 refl refl) (then_so _ (none_so refl) refl))) (search rules) refl

-- A sequence as an argument, and `newline` as the function's result
abbrev nested : Tree
nested = Sequence (more (shown (Sequence (more line_end (more (sum_of (int 1) (int 2)) none)))) (more line_end none))

abbrev nested_locals : List CVar
nested_locals = var Long x1 ∷ var Long x2 ∷ var Long x3 ∷ var Obj x4 ∷ []

abbrev nested_code : Code
nested_code = call (operation (primitive_op Newline) []) (assign x1 (a_number 1) (assign x2 (a_number 2) (assign x3 (plus x1 x2) (assign x4 (boxed x3) (call (operation (primitive_op Display) (local x4 ∷ [])) (return (calls (primitive_op Newline) []) done))))))

nested_sequence : Translated (hello nested) (unit nested_locals nested_code)
unfolding Tr TrUnused TrAllUnused TrLast TrArguments is_sound_with function_name maker_name initializer_name unmangled is_module_function is_maker_name is_initializer_name is_function_name is_local_name is_variable_name is_label_name
nested_sequence = translated_so (then_so _ (one_kept x4 refl (then_so _ (none_so refl) (boxed_so x3 refl (refl, two_kept x1 x2 _ refl refl refl)))) (refl, none_so refl)) (search rules) refl

-- Parameters --------------------------------------------------------------------------------

-- A parameter as the function's result
parameter_result : Translated (hello (variable 0)) (unit [] (return (a_local x0) done))
unfolding Tr TrUnused TrAllUnused TrLast TrArguments is_sound_with function_name maker_name initializer_name unmangled is_module_function is_maker_name is_initializer_name is_function_name is_local_name is_variable_name is_label_name
parameter_result = translated_so (refl, refl) (search rules) refl

-- A parameter as an argument: its word goes to a temporary
abbrev copied_code : Code
copied_code = assign x1 (a_local x0) (return (calls (primitive_op Display) (local x1 ∷ [])) done)

parameter_shown : Translated (hello (shown (variable 0))) (unit (var Obj x1 ∷ []) copied_code)
unfolding Tr TrUnused TrAllUnused TrLast TrArguments is_sound_with function_name maker_name initializer_name unmangled is_module_function is_maker_name is_initializer_name is_function_name is_local_name is_variable_name is_label_name
parameter_shown = translated_so (refl, one_kept x1 refl (refl, refl)) (search rules) refl

-- A parameter that nobody takes has no statement
parameter_unused : Translated (hello (Sequence (more (variable 0) (more (int 0) none)))) (unit [] (return (a_word 0) done))
unfolding Tr TrUnused TrAllUnused TrLast TrArguments is_sound_with function_name maker_name initializer_name unmangled is_module_function is_maker_name is_initializer_name is_function_name is_local_name is_variable_name is_label_name
parameter_unused = translated_so (then_so _ refl refl) (search rules) refl

-- Linked programs ---------------------------------------------------------------------------

display_prints : cm (linked (unit boxed_locals boxed_code)) [] [] 1 ≡ record { output = codes "3"; end = Ended 0 }
unfolding cm joined decimal_text function_name maker_name initializer_name
display_prints = refl

sum_is_the_status : cm (linked (unit sum_locals sum_code)) [] [] 1 ≡ record { output = []; end = Ended 42 }
unfolding cm joined decimal_text function_name maker_name initializer_name
sum_is_the_status = refl

no_long : cm (linked (unit unboxed_locals unboxed_code)) [] [] 1 ≡ record { output = codes "1"; end = Raised 1 (codes "long") }
unfolding cm joined decimal_text function_name maker_name initializer_name
no_long = refl
