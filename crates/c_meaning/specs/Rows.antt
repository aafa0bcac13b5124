-- Worked rows: what small C programs print, how they end, and which are checked.
use Rattle.std.specs.Prelude.{◌≡◌, ℕ, List, [], ◌∷◌, ◌++◌, codes, pos, true, false, refl}
use Rattle.base_io.specs.declared.end.End.{End}
use Rattle.base_io.specs.declared.end.End.TheVariants.{Ended, Raised, Spent}
use Rattle.base_io.specs.Observation.{Observation}
use Rattle.prim_table.specs.Errors.{number_of}
use Rattle.prim_table.specs.declared.errors.ErrCode.TheVariants.{WrongType, ArgumentCount, Range}
use Rattle.built_table.specs.declared.primitives.Primitive.TheVariants.{Add, Less, Display, Newline}
use Rattle.scheme_data.specs.Decimal.{decimal_text}
use Rattle.c_tree.specs.declared.op.Op.{Op}
use Rattle.c_tree.specs.declared.op.Op.TheVariants.{BoxLong, BoxBool, UnboxLong, Truth, Call as Calls, Raise, Args, Status}
use Rattle.c_tree.specs.Operations.{primitive_op}
use Rattle.c_tree.specs.declared.tree.CTy.{CTy}
use Rattle.c_tree.specs.declared.tree.CTy.TheVariants.{Obj, Long, Int}
use Rattle.c_tree.specs.declared.tree.CAtom.TheVariants as atom
use Rattle.c_tree.specs.declared.tree.CArg.{CArg}
use Rattle.c_tree.specs.declared.tree.CArg.TheVariants as arg
use Rattle.c_tree.specs.declared.tree.Callee.TheVariants as callee
use Rattle.c_tree.specs.declared.tree.CCall.{CCall}
use Rattle.c_tree.specs.declared.tree.CExpr.TheVariants as expr
use Rattle.c_tree.specs.declared.tree.CVar.{CVar}
use Rattle.c_tree.specs.Code.{Code, done, assign, call, return, test, loop, ended, goto, Item, global, declared, defined}
use Rattle.c_tree.specs.Names.{is_local_name, local_name, label_name, function_name, maker_name, initializer_name}
use Rattle.c_meaning.specs.Program.{cm}
use Rattle.c_meaning.specs.Plain.{is_sound, is_plain}
use Rattle.c_meaning.specs.Runnable.{is_runnable}

abbrev pub x : ℕ → CArg
x n = arg.Atom (atom.Name (local_name n))

abbrev pub number : ℕ → CArg
number n = arg.Atom (atom.Int (pos n))

abbrev pub operation : Op → List CArg → CCall
operation op args = record { callee = callee.Op op; args = args }

abbrev pub function : List CArg → CCall
function args = record { callee = callee.Fun (function_name (codes "hello") (codes "go")); args = args }

abbrev pub var : CTy → ℕ → CVar
var t n = record { ty = t; name = local_name n }

-- `int main(void) { obj x0; obj x1; x0 = bgl_args(); x1 = f_hello__go(x0); return bgl_status(x1); }`
abbrev pub main : Item
main = defined (record {
  result = Int;
  name = codes "main";
  params = [];
  locals = var Obj 0 ∷ var Obj 1 ∷ [];
  code = assign (local_name 0) (expr.Call (operation Args [])) (assign (local_name 1) (expr.Call (function (x 0 ∷ []))) (return (expr.Call (operation Status (x 1 ∷ []))) done));
})

abbrev pub go : List CVar → Code → Item
go locals body = defined (record {
  result = Obj;
  name = function_name (codes "hello") (codes "go");
  params = var Obj 0 ∷ [];
  locals = locals;
  code = loop (label_name 0) body done;
})

-- `x1 = bgl_p__2b(a, b); x2 = bgl_box_long(x1); bgl_p_display(x2);` and then a newline
abbrev pub sum_shown : ℕ → ℕ → Code
sum_shown a b =
    assign (local_name 1) (expr.Call (operation (primitive_op Add) (number a ∷ number b ∷ [])))
    (assign (local_name 2) (expr.Call (operation BoxLong (x 1 ∷ [])))
    (call (operation (primitive_op Display) (x 2 ∷ [])) (return (expr.Call (operation (primitive_op Newline) [])) done)))

abbrev pub sum_locals : List CVar
sum_locals = var Long 1 ∷ var Obj 2 ∷ []

abbrev pub observation : List ℕ → End → Observation
observation output end = record { output = output; end = end }

sum_prints_42 : cm (go sum_locals (sum_shown 40 2) ∷ main ∷ []) [] [] 1 ≡ observation (codes "42" ++ 10 ∷ []) (Ended 0)
unfolding cm decimal_text local_name function_name label_name
sum_prints_42 = refl

no_turn_is_left : cm (go sum_locals (sum_shown 40 2) ∷ main ∷ []) [] [] 0 ≡ observation [] Spent
unfolding cm decimal_text local_name function_name label_name
no_turn_is_left = refl

sum_leaves_range : cm (go sum_locals (sum_shown 1152921504606846975 1) ∷ main ∷ []) [] [] 1 ≡ observation [] (Raised (number_of Range) (codes "+"))
unfolding cm decimal_text local_name function_name label_name
sum_leaves_range = refl

-- a block that ends begins the next iteration
loop_without_return_is_spent : cm (go [] (call (operation (primitive_op Newline) []) done) ∷ main ∷ []) [] [] 3 ≡ observation (10 ∷ 10 ∷ 10 ∷ []) Spent
unfolding cm decimal_text local_name function_name label_name
loop_without_return_is_spent = refl

locals_start_as_0 : cm (go sum_locals (return (expr.Call (operation (primitive_op Display) (x 2 ∷ []))) done) ∷ main ∷ []) [] [] 1 ≡ observation (codes "0") (Ended 0)
unfolding cm decimal_text local_name function_name label_name
locals_start_as_0 = refl

constant_is_no_long : cm (go sum_locals (assign (local_name 1) (expr.Call (operation UnboxLong (arg.Atom atom.Nil ∷ []))) done) ∷ main ∷ []) [] [] 1 ≡ observation [] (Raised (number_of WrongType) (codes "long"))
unfolding cm decimal_text local_name function_name label_name
constant_is_no_long = refl

sum_is_plain : is_plain (go sum_locals (sum_shown 40 2) ∷ main ∷ []) ≡ true
unfolding is_plain is_sound decimal_text local_name function_name label_name
sum_is_plain = refl

call_before_definition_is_not : is_plain (main ∷ go sum_locals (sum_shown 40 2) ∷ []) ≡ false
unfolding is_plain is_sound decimal_text local_name function_name label_name
call_before_definition_is_not = refl

undeclared_local_is_not : is_plain (go [] (sum_shown 40 2) ∷ main ∷ []) ≡ false
unfolding is_plain is_sound decimal_text local_name function_name label_name
undeclared_local_is_not = refl

wrong_type_is_not : is_plain (go (var Obj 1 ∷ var Obj 2 ∷ []) (sum_shown 40 2) ∷ main ∷ []) ≡ false
unfolding is_plain is_sound decimal_text local_name function_name label_name
wrong_type_is_not = refl

-- Calls -------------------------------------------------------------------------------------

-- `for (;;) { bgl_p_newline(); x1 = f_hello__go(x0); return x1; }`
abbrev pub calls_itself : Item
calls_itself = go (var Obj 1 ∷ []) (call (operation (primitive_op Newline) []) (assign (local_name 1) (expr.Call (function (x 0 ∷ []))) (return (expr.Atom (atom.Name (local_name 1))) done)))

abbrev pub go_declared : Item
go_declared = declared Obj (function_name (codes "hello") (codes "go")) (Obj ∷ [])

calls_take_turns : cm (go_declared ∷ calls_itself ∷ main ∷ []) [] [] 3 ≡ observation (10 ∷ 10 ∷ 10 ∷ []) Spent
unfolding cm decimal_text local_name function_name label_name
calls_take_turns = refl

-- a string is the text of the error
raise_ends : cm (go [] (call (operation Raise (number (number_of ArgumentCount) ∷ arg.Str (codes "1") ∷ [])) done) ∷ main ∷ []) [] [] 1 ≡ observation [] (Raised (number_of ArgumentCount) (codes "1"))
unfolding cm decimal_text local_name function_name label_name
raise_ends = refl

call_after_declaration_is_plain : is_plain (go_declared ∷ calls_itself ∷ main ∷ []) ≡ true
unfolding is_plain is_sound decimal_text local_name function_name label_name
call_after_declaration_is_plain = refl

-- its head counts as declared in its body
call_of_itself_is_plain : is_plain (calls_itself ∷ main ∷ []) ≡ true
unfolding is_plain is_sound decimal_text local_name function_name label_name
call_of_itself_is_plain = refl

wrong_number_of_arguments_is_not : is_plain (go_declared ∷ go (var Obj 1 ∷ []) (assign (local_name 1) (expr.Call (function [])) done) ∷ main ∷ []) ≡ false
unfolding is_plain is_sound decimal_text local_name function_name label_name
wrong_number_of_arguments_is_not = refl

-- Branches ----------------------------------------------------------------------------------

-- `x1 = bgl_p__3c(a, b); if (x1) { x2 = bgl_box_long(7); } else { x2 = bgl_box_bool(x1); } return bgl_p_display(x2);`
abbrev pub chooses : ℕ → ℕ → Code
chooses a b =
    assign (local_name 1) (expr.Call (operation (primitive_op Less) (number a ∷ number b ∷ [])))
    (test (expr.Atom (atom.Name (local_name 1)))
    (assign (local_name 2) (expr.Call (operation BoxLong (number 7 ∷ []))) done)
    (assign (local_name 2) (expr.Call (operation BoxBool (x 1 ∷ []))) done)
    (return (expr.Call (operation (primitive_op Display) (x 2 ∷ []))) done))

abbrev pub choice_locals : List CVar
choice_locals = var Int 1 ∷ var Obj 2 ∷ []

a_set_condition_takes_the_first_block : cm (go choice_locals (chooses 1 2) ∷ main ∷ []) [] [] 1 ≡ observation (codes "7") (Ended 0)
unfolding cm decimal_text local_name function_name label_name
a_set_condition_takes_the_first_block = refl

zero_takes_the_second_block : cm (go choice_locals (chooses 2 2) ∷ main ∷ []) [] [] 1 ≡ observation (codes "#f") (Ended 0)
unfolding cm decimal_text local_name function_name label_name
zero_takes_the_second_block = refl

-- `if (bgl_truth(atom)) { return bgl_p_newline(); } else { }` and then the next iteration
abbrev pub asks : CArg → Code
asks a = test (expr.Call (operation Truth (a ∷ []))) (return (expr.Call (operation (primitive_op Newline) [])) done) done done

all_but_false_is_true : cm (go [] (asks (arg.Atom atom.Nil)) ∷ main ∷ []) [] [] 2 ≡ observation (10 ∷ []) (Ended 0)
unfolding cm decimal_text local_name function_name label_name
all_but_false_is_true = refl

false_is_false : cm (go [] (asks (arg.Atom atom.False)) ∷ main ∷ []) [] [] 2 ≡ observation [] Spent
unfolding cm decimal_text local_name function_name label_name
false_is_false = refl

choice_is_plain : is_plain (go choice_locals (chooses 1 2) ∷ main ∷ []) ≡ true
unfolding is_plain is_sound decimal_text local_name function_name label_name
choice_is_plain = refl

a_condition_that_is_no_int_is_not : is_plain (go (var Obj 1 ∷ var Obj 2 ∷ []) (test (expr.Atom (atom.Name (local_name 1))) done done done) ∷ main ∷ []) ≡ false
unfolding is_plain is_sound decimal_text local_name function_name label_name
a_condition_that_is_no_int_is_not = refl

a_fault_in_a_block_is_found : is_plain (go [] (test (expr.Atom (atom.Int (pos 1))) done (assign (local_name 9) (expr.Atom atom.Nil) done) done) ∷ main ∷ []) ≡ false
unfolding is_plain is_sound decimal_text local_name function_name label_name
a_fault_in_a_block_is_found = refl

-- Labels ------------------------------------------------------------------------------------

abbrev pub end_label : List ℕ
end_label = codes "E0"

-- `{ goto E0; x2 = bgl_box_long(1); } E0:; return bgl_p_display(x2);`
abbrev pub skips : Code
skips = ended (goto end_label (assign (local_name 2) (expr.Call (operation BoxLong (number 1 ∷ []))) done)) end_label (return (expr.Call (operation (primitive_op Display) (x 2 ∷ []))) done)

a_goto_goes_on_behind_its_label : cm (go sum_locals skips ∷ main ∷ []) [] [] 1 ≡ observation (codes "0") (Ended 0)
unfolding cm decimal_text local_name function_name label_name
a_goto_goes_on_behind_its_label = refl

-- `{ bgl_p_newline(); goto L0; } E0:; return bgl_p_newline();`
abbrev pub begins_again : Code
begins_again = ended (call (operation (primitive_op Newline) []) (goto (label_name 0) done)) end_label (return (expr.Call (operation (primitive_op Newline) [])) done)

a_goto_begins_the_next_iteration : cm (go [] begins_again ∷ main ∷ []) [] [] 2 ≡ observation (10 ∷ 10 ∷ []) Spent
unfolding cm decimal_text local_name function_name label_name
a_goto_begins_the_next_iteration = refl

-- Forms -------------------------------------------------------------------------------------

sum_is_runnable : is_runnable (go sum_locals (sum_shown 40 2) ∷ main ∷ []) ≡ true
unfolding is_local_name decimal_text local_name function_name label_name
sum_is_runnable = refl

a_goto_is_not : is_runnable (go [] begins_again ∷ main ∷ []) ≡ false
unfolding is_local_name decimal_text local_name function_name label_name
a_goto_is_not = refl

a_loop_in_another_is_not : is_runnable (go [] (loop (label_name 1) done done) ∷ main ∷ []) ≡ false
unfolding is_local_name decimal_text local_name function_name label_name
a_loop_in_another_is_not = refl

a_global_is_not : is_runnable (global (record { ty = Obj; name = codes "v_hello__x" }) ∷ main ∷ []) ≡ false
a_global_is_not = refl

a_symbol_is_not : is_runnable (go [] (return (expr.Atom (atom.Sym (codes "s_x"))) done) ∷ main ∷ []) ≡ false
unfolding is_local_name decimal_text local_name function_name label_name
a_symbol_is_not = refl

a_call_of_a_closure_is_not : is_runnable (go [] (return (expr.Call (operation Calls (x 0 ∷ []))) done) ∷ main ∷ []) ≡ false
unfolding is_local_name decimal_text local_name function_name label_name
a_call_of_a_closure_is_not = refl

-- Makers and initialisations ----------------------------------------------------------------

abbrev pub straight : List ℕ → Code → Item
straight name code = defined (record { result = Obj; name = name; params = []; locals = var Obj 0 ∷ []; code = code })

abbrev pub calling : List ℕ → List CArg → CCall
calling name args = record { callee = callee.Fun name; args = args }

abbrev pub maker : Code → Item
maker code = straight (maker_name (codes "hello")) code

abbrev pub initializer : Code → Item
initializer code = straight (initializer_name (codes "hello")) code

abbrev pub ends : Code
ends = return (expr.Atom atom.Unspec) done

-- `f_hello__go(1); return BGL_UNSPEC;`
abbrev pub goes_first : Code
goes_first = assign (local_name 0) (expr.Call (operation BoxLong (number 1 ∷ []))) (call (function (x 0 ∷ [])) ends)

-- these calls, and then what `main` does
abbrev pub main_after : (Code → Code) → Item
main_after before = defined (record {
  result = Int;
  name = codes "main";
  params = [];
  locals = var Obj 0 ∷ var Obj 1 ∷ [];
  code = before (assign (local_name 0) (expr.Call (operation Args [])) (assign (local_name 1) (expr.Call (function (x 0 ∷ []))) (return (expr.Call (operation Status (x 1 ∷ []))) done)));
})

abbrev pub each_once : Code → Code
each_once rest = call (calling (maker_name (codes "hello")) []) (call (calling (initializer_name (codes "hello")) []) rest)

abbrev pub shows_line : Item
shows_line = go [] (return (expr.Call (operation (primitive_op Newline) [])) done)

-- the initialisation calls a function, which takes a turn, and then `main` does
an_initialisation_takes_no_turn : cm (shows_line ∷ maker ends ∷ initializer goes_first ∷ main_after each_once ∷ []) [] [] 2 ≡ observation (10 ∷ 10 ∷ []) (Ended 0)
unfolding cm decimal_text local_name function_name label_name maker_name initializer_name
an_initialisation_takes_no_turn = refl

what_an_initialisation_calls_takes_a_turn : cm (shows_line ∷ maker ends ∷ initializer goes_first ∷ main_after each_once ∷ []) [] [] 1 ≡ observation (10 ∷ []) Spent
unfolding cm decimal_text local_name function_name label_name maker_name initializer_name
what_an_initialisation_calls_takes_a_turn = refl

each_called_once_is_plain : is_plain (shows_line ∷ maker ends ∷ initializer goes_first ∷ main_after each_once ∷ []) ≡ true
unfolding is_plain is_sound decimal_text local_name function_name label_name maker_name initializer_name
each_called_once_is_plain = refl

never_called_is_not : is_plain (shows_line ∷ maker ends ∷ initializer goes_first ∷ main_after (λ rest. rest) ∷ []) ≡ false
unfolding is_plain is_sound decimal_text local_name function_name label_name maker_name initializer_name
never_called_is_not = refl

called_twice_is_not : is_plain (shows_line ∷ maker ends ∷ initializer goes_first ∷ main_after (λ rest. each_once (each_once rest)) ∷ []) ≡ false
unfolding is_plain is_sound decimal_text local_name function_name label_name maker_name initializer_name
called_twice_is_not = refl

a_maker_that_calls_is_not : is_plain (shows_line ∷ maker goes_first ∷ initializer goes_first ∷ main_after each_once ∷ []) ≡ false
unfolding is_plain is_sound decimal_text local_name function_name label_name maker_name initializer_name
a_maker_that_calls_is_not = refl
