-- Worked rows: the first breach of small C programs, for each cause and each shape, and programs that break no rule.
use Rattle.std.specs.Prelude.{◌≡◌, ℕ, List, [], ◌∷◌, codes, pos, Some, slice_get, refl}
use Rattle.c_tree.specs.declared.op.Op.{Op}
use Rattle.c_tree.specs.declared.op.Op.TheVariants.{Closure, Call as Calls, Raise}
use Rattle.c_tree.specs.declared.tree.CTy.{CTy}
use Rattle.c_tree.specs.declared.tree.CTy.TheVariants.{Obj, Long, Char, Int}
use Rattle.c_tree.specs.declared.tree.CAtom.TheVariants as atom
use Rattle.c_tree.specs.declared.tree.CArg.{CArg}
use Rattle.c_tree.specs.declared.tree.CArg.TheVariants as arg
use Rattle.c_tree.specs.declared.tree.Callee.TheVariants as callee
use Rattle.c_tree.specs.declared.tree.CCall.{CCall}
use Rattle.c_tree.specs.declared.tree.CExpr.{CExpr}
use Rattle.c_tree.specs.declared.tree.CExpr.TheVariants as expr
use Rattle.c_tree.specs.declared.tree.CVar.{CVar}
use Rattle.c_tree.specs.Code.{Code, done, assign, call, return, loop, ended, goto, catch, protect, Item, external, global, declared, defined}
use Rattle.c_meaning.specs.declared.breach.BadCause.{BadCause}
use Rattle.c_meaning.specs.declared.breach.BadCause.TheVariants.{Undeclared, Clash, Twice, Types, Label, Shape}
use Rattle.c_meaning.specs.Checked.{breach, breaches}

abbrev main : List ℕ
main = codes "main"

-- a function of a module, its entry, the module's maker and its initialisation, a variable
abbrev fun : List ℕ
fun = codes "f_m__a"

abbrev entry : List ℕ
entry = codes "e_m__a"

abbrev maker : List ℕ
maker = codes "c_m"

abbrev initializer : List ℕ
initializer = codes "i_m"

abbrev variable : List ℕ
variable = codes "v_m__a"

abbrev x0 : List ℕ
x0 = codes "x0"

abbrev L0 : List ℕ
L0 = codes "L0"

abbrev E0 : List ℕ
E0 = codes "E0"

abbrev var : CTy → List ℕ → CVar
var t name = record { ty = t; name = name }

abbrev number : ℕ → CExpr
number n = expr.Atom (atom.Int (pos n))

abbrev read : List ℕ → CExpr
read x = expr.Atom (atom.Name x)

abbrev calling : List ℕ → List CArg → CCall
calling name args = record { callee = callee.Fun name; args = args }

abbrev doing : Op → List CArg → CCall
doing op args = record { callee = callee.Op op; args = args }

abbrev function : CTy → List ℕ → List CVar → List CVar → Code → Item
function t name params locals code = defined (record { result = t; name = name; params = params; locals = locals; code = code })

-- `int main(void) { LOCALS CODE return 0; }` of what stands before the last statement
abbrev main_with : List CVar → (Code → Code) → Item
main_with locals code = function Int main [] locals (code (return (number 0) done))

abbrev whole : Item
whole = main_with [] (λ rest. rest)

-- `obj NAME(void) { obj x0; CODE return x0; }`
abbrev gives_x0 : List ℕ → (Code → Code) → Item
gives_x0 name code = function Obj name [] (var Obj x0 ∷ []) (code (return (read x0) done))

-- `obj f_m__a(void) { L0: for (;;) { CODE } }`
abbrev looped : Code → Item
looped code = function Obj fun [] (var Obj x0 ∷ []) (loop L0 code done)

abbrev Breaks : List Item → List ℕ → BadCause → Type 0
Breaks items name cause = slice_get (breaches items) 0 ≡ Some (breach name cause)

abbrev Keeps : List Item → Type 0
Keeps items = breaches items ≡ []

-- No rule is broken -----------------------------------------------------------------------------

alone : Keeps (whole ∷ [])
unfolding breaches
alone = refl

-- a block before a label, in a loop, and what may lead to them
led : Keeps (looped (ended (goto E0 (goto L0 done)) E0 (return (read x0) done)) ∷ whole ∷ [])
unfolding breaches
led = refl

-- a maker makes the closure of an entry
entered : Keeps (
    declared Obj fun [] ∷ function Obj entry (var Obj x0 ∷ []) [] (return (expr.Call (calling fun [])) done)
    ∷ gives_x0 maker (λ rest. assign x0 (expr.Call (doing Closure (arg.Entry entry ∷ arg.Atom (atom.Int (pos 1)) ∷ arg.Atom (atom.Int (pos 0)) ∷ []))) rest)
    ∷ looped (return (read x0) done) ∷ main_with [] (λ rest. call (calling maker []) rest) ∷ [])
unfolding breaches
entered = refl

-- Undeclared ------------------------------------------------------------------------------------

no_local : Breaks (main_with [] (λ rest. assign x0 (number 1) rest) ∷ []) main Undeclared
unfolding breaches
no_local = refl

too_early : Breaks (main_with [] (λ rest. assign variable (expr.Atom atom.Nil) rest) ∷ global (var Obj variable) ∷ []) main Undeclared
unfolding breaches
too_early = refl

-- a want stands under the name that is wanted
undefined : Breaks (external (var Obj variable) ∷ main_with [] (λ rest. assign variable (expr.Atom atom.Nil) rest) ∷ []) variable Undeclared
unfolding breaches
undefined = refl

unused : Keeps (external (var Obj variable) ∷ whole ∷ [])
unfolding breaches
unused = refl

-- Clash and Twice ---------------------------------------------------------------------------------

other_type : Breaks (external (var Obj variable) ∷ global (var Long variable) ∷ whole ∷ []) variable Clash
unfolding breaches
other_type = refl

fewer_parameters : Breaks (declared Obj fun (Obj ∷ []) ∷ declared Obj fun [] ∷ whole ∷ []) fun Clash
unfolding breaches
fewer_parameters = refl

defined_twice : Breaks (whole ∷ whole ∷ []) main Twice
unfolding breaches
defined_twice = refl

label_twice : Breaks (looped (loop L0 done done) ∷ whole ∷ []) fun Twice
unfolding breaches
label_twice = refl

-- the rule that is broken first, in the order of the causes
first_of_two : Breaks (declared Obj maker [] ∷ declared Long maker [] ∷ whole ∷ []) maker Clash
unfolding breaches
first_of_two = refl

-- Types -------------------------------------------------------------------------------------------

other_result : Breaks (function Int main [] [] (return (expr.Atom atom.True) done) ∷ []) main Types
unfolding breaches
other_result = refl

no_error : Breaks (main_with [] (λ rest. call (doing Raise (arg.Atom (atom.Int (pos 11)) ∷ arg.Str [] ∷ [])) rest) ∷ []) main Types
unfolding breaches
no_error = refl

too_few : Breaks (main_with [] (λ rest. call (doing Calls []) rest) ∷ []) main Types
unfolding breaches
too_few = refl

large_char : Breaks (main_with (var Char x0 ∷ []) (λ rest. assign x0 (number 256) rest) ∷ []) main Types
unfolding breaches
large_char = refl

-- Label -------------------------------------------------------------------------------------------

outside : Breaks (main_with [] (λ rest. loop L0 done (goto L0 rest)) ∷ []) main Label
unfolding breaches
outside = refl

left_by_goto : Breaks (looped (protect (goto L0 done) done done) ∷ whole ∷ []) fun Label
unfolding breaches
left_by_goto = refl

left_by_return : Breaks (looped (catch x0 x0 (return (read x0) done) done) ∷ whole ∷ []) fun Label
unfolding breaches
left_by_return = refl

-- Shape -------------------------------------------------------------------------------------------

no_main : Breaks [] main Shape
unfolding breaches
no_main = refl

no_return : Breaks (function Int main [] [] done ∷ []) main Shape
unfolding breaches
no_return = refl

no_loop : Breaks (function Obj fun [] [] done ∷ whole ∷ []) fun Shape
unfolding breaches
no_loop = refl

behind_the_loop : Breaks (function Obj fun [] [] (loop L0 done (goto L0 done)) ∷ whole ∷ []) fun Shape
unfolding breaches
behind_the_loop = refl

two_calls : Breaks (declared Obj fun [] ∷ gives_x0 entry (λ rest. assign x0 (expr.Call (calling fun [])) (assign x0 (expr.Call (calling fun [])) rest)) ∷ whole ∷ []) entry Shape
unfolding breaches
two_calls = refl

no_call : Breaks (gives_x0 entry (λ rest. rest) ∷ whole ∷ []) entry Shape
unfolding breaches
no_call = refl

loop_in_entry : Breaks (gives_x0 entry (λ rest. loop L0 done rest) ∷ whole ∷ []) entry Shape
unfolding breaches
loop_in_entry = refl

maker_calls : Breaks (declared Obj fun [] ∷ gives_x0 maker (λ rest. assign x0 (expr.Call (calling fun [])) rest) ∷ whole ∷ []) maker Shape
unfolding breaches
maker_calls = refl

maker_takes : Breaks (declared Obj maker (Obj ∷ []) ∷ whole ∷ []) maker Shape
unfolding breaches
maker_takes = refl

entry_called : Breaks (declared Obj entry [] ∷ main_with [] (λ rest. call (calling entry []) rest) ∷ []) main Shape
unfolding breaches
entry_called = refl

called_twice : Breaks (declared Obj initializer [] ∷ main_with [] (λ rest. call (calling initializer []) (call (calling initializer []) rest)) ∷ []) main Shape
unfolding breaches
called_twice = refl

never_called : Breaks (gives_x0 initializer (λ rest. rest) ∷ whole ∷ []) initializer Shape
unfolding breaches
never_called = refl
