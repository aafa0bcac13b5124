-- Small modules and units with `if` and truth values that are translations: where the value of an `if` goes, how its test comes, and where truth values go.
use Rattle.std.proofs.Common.{rules, ◌≡◌, List, [], ◌∷◌, true, false, refl}
use Rattle.std.specs.Prelude.{codes}
use Rattle.base_io.specs.declared.end.End.TheVariants.{Ended, Raised}
use Rattle.scheme_data.specs.Decimal.{decimal_text}
use Rattle.built_table.specs.declared.primitives.Ty.TheVariants as ty
use Rattle.built_table.specs.declared.primitives.Primitive.TheVariants.{Display, Newline}
use Rattle.core_tree.specs.Tree.{Tree, If, Sequence, none, more, FunctionTree, ModuleTree}
use Rattle.c_tree.specs.declared.op.Op.TheVariants.{UnboxLong, Truth}
use Rattle.c_tree.specs.Operations.{primitive_op}
use Rattle.c_tree.specs.declared.tree.CTy.TheVariants.{Obj, Long, Int}
use Rattle.c_tree.specs.declared.tree.CAtom.TheVariants as atom
use Rattle.c_tree.specs.declared.tree.CExpr.{CExpr}
use Rattle.c_tree.specs.declared.tree.CExpr.TheVariants as expr
use Rattle.c_tree.specs.declared.tree.CVar.{CVar}
use Rattle.c_tree.specs.Code.{Code, done, assign, call, return, test, Item, declared, defined}
use Rattle.c_tree.specs.Names.{function_name, maker_name, initializer_name, unmangled, is_module_function, is_maker_name, is_initializer_name, is_function_name, is_local_name, is_variable_name, is_label_name}
use Rattle.c_meaning.specs.Program.{cm}
use Rattle.plan_rules.specs.Joined.{joined}
use Rattle.plan_rules.specs.Representation.{raise_type, operation, local}
use Rattle.plan_rules.specs.Translation.{Name, Tr, TrUnused, TrAllUnused, TrLast, TrArguments, is_sound_with, Translated}
use Rattle.plan_rules.proofs.ExampleUnits.{int, truth, sum_of, less_of, shown, line_end, f_name, x0, x1, x2, x3, x4, x5, x6, calls, var, plus, is_less, boxed, boxed_truth, a_number, a_word, variable, only, call_first, a_local, calls_function, function, below, hello, one_word, unit, linked, translated_so, recursive_so}
use Rattle.plan_rules.proofs.ExampleDerivations.{then_so, boxed_so, made_so, refused_so, branch_so, none_so, one_so, one_kept, two_so, two_kept, first_unboxed}

abbrev is_word_true : Name → CExpr
is_word_true x = calls Truth (local x ∷ [])

-- Where the value of an `if` goes -----------------------------------------------------------

-- To a local, as an argument of a sum. The test is a word, by `bgl_truth`
abbrev argument_body : Tree
argument_body = sum_of (If (variable 0) (int 1) (int 2)) (int 3)

abbrev argument_locals : List CVar
argument_locals = var Obj x1 ∷ var Obj x2 ∷ var Long x3 ∷ var Long x4 ∷ var Long x5 ∷ []

abbrev sum_code : Code
sum_code = assign x3 (a_number 3) (assign x4 (calls UnboxLong (local x2 ∷ [])) (assign x5 (plus x4 x3) (return (boxed x5) done)))

abbrev argument_code : Code
argument_code = assign x1 (a_local x0) (test (is_word_true x1) (assign x2 (a_word 1) done) (assign x2 (a_word 2) done) sum_code)

branch_as_argument : Translated (hello argument_body) (unit argument_locals argument_code)
unfolding Tr TrUnused TrAllUnused TrLast TrArguments is_sound_with function_name maker_name initializer_name unmangled is_module_function is_maker_name is_initializer_name is_function_name is_local_name is_variable_name is_label_name
branch_as_argument = translated_so (boxed_so x5 refl (refl, first_unboxed x2 x3 x4 _ refl refl (refl, branch_so x1 _ _ refl (refl, refl) refl refl) refl)) (search rules) refl

-- It is the function's result, and each block returns. The test is `<`, an int itself; the first block boxes a number, the second gives a constant
abbrev result_body : Tree
result_body = If (less_of (int 2) (int 3)) (sum_of (int 40) (int 2)) (truth false)

abbrev result_locals : List CVar
result_locals = var Long x1 ∷ var Long x2 ∷ var Int x3 ∷ var Long x4 ∷ []

abbrev result_first : Code
result_first = assign x1 (a_number 40) (assign x2 (a_number 2) (assign x4 (plus x1 x2) (return (boxed x4) done)))

abbrev result_code : Code
result_code = assign x1 (a_number 2) (assign x2 (a_number 3) (assign x3 (is_less x1 x2) (test (a_local x3) result_first (return (expr.Atom atom.False) done) done)))

branch_result : Translated (hello result_body) (unit result_locals result_code)
unfolding Tr TrUnused TrAllUnused TrLast TrArguments is_sound_with function_name maker_name initializer_name unmangled is_module_function is_maker_name is_initializer_name is_function_name is_local_name is_variable_name is_label_name
branch_result = translated_so (refl, branch_so x3 _ _ refl (refl, two_kept x1 x2 _ refl refl refl) (boxed_so x4 refl (refl, two_kept x1 x2 _ refl refl refl)) refl) (search rules) refl

-- Nobody takes it: a block is a sequence, and a block of a constant is empty. The test is a constant, as an int
abbrev unused_body : Tree
unused_body = Sequence (more (If (truth true) (Sequence (more line_end (more (int 5) none))) (int 1)) (more (int 0) none))

abbrev unused_code : Code
unused_code = assign x1 (a_number 1) (test (a_local x1) (call (operation (primitive_op Newline) []) done) done (return (a_word 0) done))

branch_unused : Translated (hello unused_body) (unit (var Int x1 ∷ []) unused_code)
unfolding Tr TrUnused TrAllUnused TrLast TrArguments is_sound_with function_name maker_name initializer_name unmangled is_module_function is_maker_name is_initializer_name is_function_name is_local_name is_variable_name is_label_name
branch_unused = translated_so (then_so _ (branch_so x1 _ _ refl refl (then_so _ (none_so refl) (then_so _ refl refl)) refl) refl) (search rules) refl

-- How the test comes ------------------------------------------------------------------------

-- As a number, which is true: the condition is 1
abbrev number_body : Tree
number_body = If (int 0) (int 7) (int 8)

abbrev number_code : Code
number_code = assign x1 (a_number 0) (test (a_number 1) (return (a_word 7) done) (return (a_word 8) done) done)

number_test : Translated (hello number_body) (unit (var Long x1 ∷ []) number_code)
unfolding Tr TrUnused TrAllUnused TrLast TrArguments is_sound_with function_name maker_name initializer_name unmangled is_module_function is_maker_name is_initializer_name is_function_name is_local_name is_variable_name is_label_name
number_test = translated_so (refl, branch_so x1 _ _ refl refl refl refl) (search rules) refl

-- From an `if`, as a word. A block that is an `if` returns from both of its blocks
abbrev nested_body : Tree
nested_body = If (If (variable 0) (truth false) (int 0)) (int 1) (If (truth false) (int 2) (int 3))

abbrev inner_code : Code
inner_code = assign x3 (a_number 0) (test (a_local x3) (return (a_word 2) done) (return (a_word 3) done) done)

abbrev nested_code : Code
nested_code =
    assign x1 (a_local x0)
    (test (is_word_true x1) (assign x2 (expr.Atom atom.False) done) (assign x2 (a_word 0) done)
    (test (is_word_true x2) (return (a_word 1) done) inner_code done))

nested_branches : Translated (hello nested_body) (unit (var Obj x1 ∷ var Obj x2 ∷ var Int x3 ∷ []) nested_code)
unfolding Tr TrUnused TrAllUnused TrLast TrArguments is_sound_with function_name maker_name initializer_name unmangled is_module_function is_maker_name is_initializer_name is_function_name is_local_name is_variable_name is_label_name
nested_branches = translated_so (refl, branch_so x2 _ _ refl (refl, branch_so x1 _ _ refl (refl, refl) refl refl) refl (refl, branch_so x3 _ _ refl refl refl refl)) (search rules) refl

-- Where truth values go ---------------------------------------------------------------------

-- A constant, as a word
abbrev constant_code : Code
constant_code = assign x1 (expr.Atom atom.True) (return (calls (primitive_op Display) (local x1 ∷ [])) done)

truth_shown : Translated (hello (shown (truth true))) (unit (var Obj x1 ∷ []) constant_code)
unfolding Tr TrUnused TrAllUnused TrLast TrArguments is_sound_with function_name maker_name initializer_name unmangled is_module_function is_maker_name is_initializer_name is_function_name is_local_name is_variable_name is_label_name
truth_shown = translated_so (refl, one_kept x1 refl refl) (search rules) refl

-- What `<` gives is boxed for an argument
abbrev order_locals : List CVar
order_locals = var Long x1 ∷ var Long x2 ∷ var Int x3 ∷ var Obj x4 ∷ []

abbrev order_code : Code
order_code = assign x1 (a_number 1) (assign x2 (a_number 2) (assign x3 (is_less x1 x2) (assign x4 (boxed_truth x3) (return (calls (primitive_op Display) (local x4 ∷ [])) done))))

order_shown : Translated (hello (shown (less_of (int 1) (int 2)))) (unit order_locals order_code)
unfolding Tr TrUnused TrAllUnused TrLast TrArguments is_sound_with function_name maker_name initializer_name unmangled is_module_function is_maker_name is_initializer_name is_function_name is_local_name is_variable_name is_label_name
order_shown = translated_so (refl, one_so x3 x4 _ refl (refl, two_kept x1 x2 _ refl refl refl) (made_so refl)) (search rules) refl

-- and for the function's result
abbrev order_result_code : Code
order_result_code = assign x1 (a_number 1) (assign x2 (a_number 2) (assign x3 (is_less x1 x2) (return (boxed_truth x3) done)))

order_result : Translated (hello (less_of (int 1) (int 2))) (unit order_locals order_result_code)
unfolding Tr TrUnused TrAllUnused TrLast TrArguments is_sound_with function_name maker_name initializer_name unmangled is_module_function is_maker_name is_initializer_name is_function_name is_local_name is_variable_name is_label_name
order_result = translated_so (boxed_so x3 refl (refl, two_kept x1 x2 _ refl refl refl)) (search rules) refl

-- Where a number is wanted of one, the error of a wrong type is raised, and a number stands in its place
abbrev refused_body : Tree
refused_body = sum_of (int 1) (truth true)

abbrev refused_locals : List CVar
refused_locals = var Long x1 ∷ var Int x2 ∷ var Long x3 ∷ var Long x4 ∷ []

abbrev refused_code : Code
refused_code = assign x1 (a_number 1) (assign x2 (a_number 1) (call (raise_type ty.Long) (assign x3 (a_number 0) (assign x4 (plus x1 x3) (return (boxed x4) done)))))

truth_refused : Translated (hello refused_body) (unit refused_locals refused_code)
unfolding Tr TrUnused TrAllUnused TrLast TrArguments is_sound_with function_name maker_name initializer_name unmangled is_module_function is_maker_name is_initializer_name is_function_name is_local_name is_variable_name is_label_name
truth_refused = translated_so (boxed_so x4 refl (refl, two_so x1 x2 x1 x3 _ _ _ refl refl refl (refl, refl) (refused_so refl))) (search rules) refl

-- `(define (f n) (if (< n 3) (f (+ n 1)) n))` -----------------------------------------------

abbrev counting_body : Tree
counting_body = only (If (less_of (variable 0) (int 3)) (call_first (more (sum_of (variable 0) (int 1)) none)) (variable 0))

abbrev pub counting_function : FunctionTree
counting_function = function f_name (record { 0 = 0 } ∷ []) counting_body

abbrev pub start_body : Tree
start_body = only (call_first (more (int 0) none))

abbrev pub counting : ModuleTree
counting = below (counting_function ∷ []) start_body

-- two locals serve both the test and the block
abbrev counting_locals : List CVar
counting_locals = var Obj x1 ∷ var Long x2 ∷ var Long x3 ∷ var Int x4 ∷ var Long x5 ∷ var Obj x6 ∷ []

abbrev again_code : Code
again_code = assign x1 (a_local x0) (assign x2 (a_number 1) (assign x3 (calls UnboxLong (local x1 ∷ [])) (assign x5 (plus x3 x2) (assign x6 (boxed x5) (return (calls_function f_name (local x6 ∷ [])) done)))))

abbrev counting_code : Code
counting_code = assign x1 (a_local x0) (assign x2 (a_number 3) (assign x3 (calls UnboxLong (local x1 ∷ [])) (assign x4 (is_less x3 x2) (test (a_local x4) again_code (return (a_local x0) done) done))))

abbrev start_code : Code
start_code = assign x1 (a_word 0) (return (calls_function f_name (local x1 ∷ [])) done)

abbrev pub counting_unit : List Item
counting_unit = declared Obj (function_name (codes "hello") f_name) (Obj ∷ []) ∷ defined (one_word f_name counting_locals counting_code) ∷ unit (var Obj x1 ∷ []) start_code

pub calls_in_a_block : Translated counting counting_unit
unfolding Tr TrUnused TrAllUnused TrLast TrArguments is_sound_with function_name maker_name initializer_name unmangled is_module_function is_maker_name is_initializer_name is_function_name is_local_name is_variable_name is_label_name
calls_in_a_block = recursive_so (refl, branch_so x4 _ _ refl (refl, first_unboxed x1 x2 x3 _ refl refl (refl, refl) refl) (refl, one_so x5 x6 _ refl (refl, first_unboxed x1 x2 x3 _ refl refl (refl, refl) refl) (made_so refl)) (refl, refl)) (refl, one_kept x1 refl refl) (search rules) refl

-- Linked programs ---------------------------------------------------------------------------

-- the arguments are the empty list, which is true
argument_is_the_first : cm (linked (unit argument_locals argument_code)) [] [] 1 ≡ record { output = []; end = Ended 4 }
unfolding cm joined decimal_text function_name maker_name initializer_name
argument_is_the_first = refl

result_is_the_sum : cm (linked (unit result_locals result_code)) [] [] 1 ≡ record { output = []; end = Ended 42 }
unfolding cm joined decimal_text function_name maker_name initializer_name
result_is_the_sum = refl

unused_goes_on : cm (linked (unit (var Int x1 ∷ []) unused_code)) [] [] 1 ≡ record { output = 10 ∷ []; end = Ended 0 }
unfolding cm joined decimal_text function_name maker_name initializer_name
unused_goes_on = refl

zero_is_true : cm (linked (unit (var Long x1 ∷ []) number_code)) [] [] 1 ≡ record { output = []; end = Ended 7 }
unfolding cm joined decimal_text function_name maker_name initializer_name
zero_is_true = refl

nested_is_the_last : cm (linked (unit (var Obj x1 ∷ var Obj x2 ∷ var Int x3 ∷ []) nested_code)) [] [] 1 ≡ record { output = []; end = Ended 3 }
unfolding cm joined decimal_text function_name maker_name initializer_name
nested_is_the_last = refl

truth_prints : cm (linked (unit (var Obj x1 ∷ []) constant_code)) [] [] 1 ≡ record { output = codes "#t"; end = Ended 0 }
unfolding cm joined decimal_text function_name maker_name initializer_name
truth_prints = refl

order_prints : cm (linked (unit order_locals order_code)) [] [] 1 ≡ record { output = codes "#t"; end = Ended 0 }
unfolding cm joined decimal_text function_name maker_name initializer_name
order_prints = refl

no_long : cm (linked (unit refused_locals refused_code)) [] [] 1 ≡ record { output = []; end = Raised 1 (codes "long") }
unfolding cm joined decimal_text function_name maker_name initializer_name
no_long = refl

counts_up : cm (linked counting_unit) [] [] 5 ≡ record { output = []; end = Ended 3 }
unfolding cm joined decimal_text function_name maker_name initializer_name
counts_up = refl
