-- Worked rows: what small modules print, and how they end.
use Rattle.std.specs.Prelude.{◌≡◌, ℕ, List, [], ◌∷◌, ◌++◌, codes, pos, Bool, true, false, Some, refl}
use Rattle.base_io.specs.declared.end.End.{End}
use Rattle.base_io.specs.declared.end.End.TheVariants.{Ended, Raised, Spent}
use Rattle.prim_table.specs.Errors.{number_of}
use Rattle.prim_table.specs.declared.errors.ErrCode.TheVariants.{WrongType, ArgumentCount, Range}
use Rattle.built_table.specs.declared.primitives.Primitive.TheVariants.{Add, Less, Display, Newline}
use Rattle.core_tree.specs.declared.tree.Const.TheVariants.{Int, Bool as Truth}
use Rattle.core_tree.specs.declared.tree.VarId.{VarId}
use Rattle.core_tree.specs.declared.tree.GlobalRef.TheVariants.{Own}
use Rattle.core_tree.specs.Tree.{Tree, Constant, Variable, If, Sequence, Call, Primitive, Trees, none, more, FunctionTree, ModuleTree}
use Rattle.scheme_data.specs.Decimal.{decimal_text}
use Rattle.base_io.specs.Observation.{Observation}
use Rattle.meaning.specs.Program.{src}

abbrev pub int : ℕ → Tree
int n = Constant (Int (pos n))

abbrev pub sum_of : Tree → Tree → Tree
sum_of a b = Primitive Add (more a (more b none))

abbrev pub shown : Tree → Tree
shown t = Primitive Display (more t none)

abbrev pub line_end : Tree
line_end = Primitive Newline none

-- `(module hello (main go)) (define (go args) ...)`
abbrev pub program : Trees → List ModuleTree
program body = record { name = codes "hello"; imports = []; uses = []; exports = []; forms = none; functions = record { name = codes "go"; params = record { 0 = 0 } ∷ []; body = Sequence body } ∷ []; main = Some (codes "go") } ∷ []

abbrev pub observation : List ℕ → End → Observation
observation output end = record { output = output; end = end }

hello_prints_42 : src (program (more (shown (sum_of (int 40) (int 2))) (more line_end none))) [] [] 1 ≡ observation (codes "42" ++ 10 ∷ []) (Ended 0)
unfolding src decimal_text
hello_prints_42 = refl

no_turn_is_left : src (program (more (shown (int 1)) none)) [] [] 0 ≡ observation [] Spent
unfolding src decimal_text
no_turn_is_left = refl

sum_leaves_range : src (program (more (shown (sum_of (int 1152921504606846975) (int 1))) none)) [] [] 1 ≡ observation [] (Raised (number_of Range) (codes "+"))
unfolding src decimal_text
sum_leaves_range = refl

sum_in_range : src (program (more (shown (sum_of (int 1152921504606846974) (int 1))) none)) [] [] 1 ≡ observation (codes "1152921504606846975") (Ended 0)
unfolding src decimal_text
sum_in_range = refl

arguments_come_before_their_types : src (program (more (sum_of (shown (int 1)) (shown (int 2))) none)) [] [] 1 ≡ observation (codes "12") (Raised (number_of WrongType) (codes "long"))
unfolding src decimal_text
arguments_come_before_their_types = refl

result_is_the_status : src (program (more (sum_of (int 200) (int 55)) none)) [] [] 1 ≡ observation [] (Ended 255)
unfolding src decimal_text
result_is_the_status = refl

large_result_is_status_0 : src (program (more (int 256) none)) [] [] 1 ≡ observation [] (Ended 0)
unfolding src decimal_text
large_result_is_status_0 = refl

-- Calls -------------------------------------------------------------------------------------

abbrev pub variable : ℕ → Tree
variable n = Variable (record { 0 = n })

abbrev pub function : List ℕ → List VarId → Trees → FunctionTree
function name params body = record { name = name; params = params; body = Sequence body }

abbrev pub x : ℕ → VarId
x n = record { 0 = n }

-- a first function, and `(define (go args) ...)`
abbrev pub calling : FunctionTree → Trees → List ModuleTree
calling f body = record { name = codes "t"; imports = []; uses = []; exports = []; forms = none; functions = f ∷ function (codes "go") (x 9 ∷ []) body ∷ []; main = Some (codes "go") } ∷ []

abbrev pub call_of : Trees → Tree
call_of args = Call (Own 0) args

-- `(define (f n) n)` and `(display (f))`
wrong_number_is_an_error : src (calling (function (codes "f") (x 0 ∷ []) (more (variable 0) none)) (more (shown (call_of none)) none)) [] [] 10 ≡ observation [] (Raised (number_of ArgumentCount) (codes "1"))
unfolding src decimal_text
wrong_number_is_an_error = refl

-- `(define (f a b) (display a) (newline) b)`: the arguments come first, left to right
abbrev pub second_of : List ModuleTree
second_of =
    calling (function (codes "f") (x 0 ∷ x 1 ∷ []) (more (shown (variable 0)) (more line_end (more (variable 1) none))))
    (more (shown (call_of (more (call_of (more (int 1) (more (int 2) none))) (more (call_of (more (int 3) (more (int 4) none))) none)))) none)

arguments_are_evaluated_left_to_right : src second_of [] [] 4 ≡ observation (codes "1" ++ 10 ∷ codes "3" ++ 10 ∷ codes "2" ++ 10 ∷ codes "4") (Ended 0)
unfolding src decimal_text
arguments_are_evaluated_left_to_right = refl

a_call_with_no_turn_left_is_spent : src second_of [] [] 3 ≡ observation (codes "1" ++ 10 ∷ codes "3" ++ 10 ∷ []) Spent
unfolding src decimal_text
a_call_with_no_turn_left_is_spent = refl

-- `(define (f) (display 7) (f))` for ever
abbrev pub endless : List ModuleTree
endless = calling (function (codes "f") [] (more (shown (int 7)) (more (call_of none) none))) (more (call_of none) none)

a_call_for_ever_is_spent_exactly : src endless [] [] 5 ≡ observation (codes "7777") Spent
unfolding src decimal_text
a_call_for_ever_is_spent_exactly = refl

-- Truth values and branches ------------------------------------------------------------------

abbrev pub truth : Bool → Tree
truth b = Constant (Truth b)

abbrev pub less_than : Tree → Tree → Tree
less_than a b = Primitive Less (more a (more b none))

-- `(define (f n) (if (< n 3) (f (+ n 1)) n))` and `(display (f 0))`
abbrev pub counts_to_three : List ModuleTree
counts_to_three =
    calling (function (codes "f") (x 0 ∷ []) (more (If (less_than (variable 0) (int 3)) (call_of (more (sum_of (variable 0) (int 1)) none)) (variable 0)) none))
    (more (shown (call_of (more (int 0) none))) none)

a_count_takes_a_turn_a_call : src counts_to_three [] [] 5 ≡ observation (codes "3") (Ended 0)
unfolding src decimal_text
a_count_takes_a_turn_a_call = refl

a_count_with_a_turn_less_is_spent : src counts_to_three [] [] 4 ≡ observation [] Spent
unfolding src decimal_text
a_count_with_a_turn_less_is_spent = refl

truth_values_print_as_they_are_written : src (program (more (shown (truth true)) (more (shown (truth false)) none))) [] [] 1 ≡ observation (codes "#t#f") (Ended 0)
unfolding src decimal_text
truth_values_print_as_they_are_written = refl

only_false_is_false : src (program (more (shown (If (int 0) (int 1) (int 2))) (more (shown (If line_end (int 1) (int 2))) (more (shown (If (truth false) (int 1) (int 2))) none)))) [] [] 1 ≡ observation (codes "1" ++ 10 ∷ codes "12") (Ended 0)
unfolding src decimal_text
only_false_is_false = refl

a_truth_value_is_no_number : src (program (more (shown (sum_of (int 1) (truth true))) none)) [] [] 1 ≡ observation [] (Raised (number_of WrongType) (codes "long"))
unfolding src decimal_text
a_truth_value_is_no_number = refl

numbers_are_ordered : src (program (more (shown (less_than (int 1) (int 2))) (more (shown (less_than (int 2) (int 2))) (more (shown (less_than (int 3) (int 2))) none)))) [] [] 1 ≡ observation (codes "#t#f#f") (Ended 0)
unfolding src decimal_text
numbers_are_ordered = refl

both_are_evaluated_before_a_type_is_tested : src (program (more (less_than (truth true) (shown (int 7))) none)) [] [] 1 ≡ observation (codes "7") (Raised (number_of WrongType) (codes "long"))
unfolding src decimal_text
both_are_evaluated_before_a_type_is_tested = refl
