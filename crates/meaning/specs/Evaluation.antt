-- Evaluation in a program of several modules (R5RS section 4): operator and arguments left to right, and one turn for each call of a user procedure.
use Rattle.std.specs.Prelude.{ℕ, zero, suc, List, [], ◌∷◌, length, Bool, true, Option, Some, None, if◌then◌else◌}
use Rattle.core_tree.specs.declared.tree.Const.{Const}
use Rattle.core_tree.specs.declared.tree.Const.TheVariants.{Int, Bool as Truth}
use Rattle.core_tree.specs.declared.tree.VarId.{VarId}
use Rattle.core_tree.specs.Tree.{Tree, Constant, Variable, If, Sequence, Call, Primitive, Trees, none, more, FunctionTree, ModuleTree, callee_of}
use Rattle.core_tree.specs.WellFormed.{same_variable}
use Rattle.meaning.specs.Procedures.{Procedure, procedure_of}
use Rattle.meaning.specs.Value.{Value, Fixnum, Boolean, Empty, Unspecified, State, Outcome, Gives, Spends, bind, take_turn}
use Rattle.meaning.specs.Primitives.{primitive, counted}

-- the variables in scope, newest first
abbrev pub Environment : Type 0
Environment = List (VarId × Value)

-- what a body of a module does after its turn was taken, with a smaller bound
abbrev pub Lower : Type 0
Lower = ModuleTree → Tree → Environment → State → Outcome Value

abbrev pub bound : List VarId → List Value → Environment → Environment
bound (x ∷ xs) (v ∷ vs) env = (x, v) ∷ bound xs vs env
bound [] vs env = env
bound (x ∷ xs) [] env = env

abbrev pub value_of : VarId → Environment → Option Value
value_of x [] = None
value_of x ((y, v) ∷ env) = if same_variable x y then Some v else value_of x env

-- the variables of a well-formed module have values
abbrev pub valued : Option Value → State → Outcome Value
valued None s = Spends s
valued (Some v) s = Gives v s

-- a call of a function: the number of its arguments, a turn, the body in the function's own module
abbrev pub apply : Lower → ModuleTree → FunctionTree → List Value → State → Outcome Value
apply lower m f vs s = counted (length f.params) (length vs) s (take_turn s (λ s1. lower m f.body (bound f.params vs []) s1))

-- the functions that a whole program calls are there
abbrev pub called : Lower → Option Procedure → List Value → State → Outcome Value
called lower None vs s = Spends s
called lower (Some p) vs s = apply lower p.home p.function vs s

abbrev pub constant : Const → Value
constant (Int n) = Fixnum n
constant (Truth b) = Boolean b

-- only `#f` is false
abbrev pub is_true : Value → Bool
is_true (Boolean b) = b
is_true (Fixnum n) = true
is_true Empty = true
is_true Unspecified = true

-- The program, the module in which an expression stands, and what bodies do below.
module _ (program : List ModuleTree) (m : ModuleTree) (lower : Lower) where
  abbrev mutual
    pub ev : Tree → Environment → State → Outcome Value
    ev (Constant c) env s = Gives (constant c) s
    ev (Variable x) env s = valued (value_of x env) s
    ev (If a b c) env s = bind (ev a env s) (λ v s1. if is_true v then ev b env s1 else ev c env s1)
    ev (Sequence ts) env s = ev_last ts Unspecified env s
    ev (Call g ts) env s = bind (evs ts env s) (λ vs s1. called lower (procedure_of program (callee_of m g)) vs s1)
    ev (Primitive p ts) env s = bind (evs ts env s) (λ vs s1. primitive p vs s1)

    -- in order; the value of the last part
    pub ev_last : Trees → Value → Environment → State → Outcome Value
    ev_last none v env s = Gives v s
    ev_last (more t ts) v env s = bind (ev t env s) (λ w s1. ev_last ts w env s1)

    -- left to right
    pub evs : Trees → Environment → State → Outcome (List Value)
    evs none env s = Gives [] s
    evs (more t ts) env s = bind (ev t env s) (λ v s1. bind (evs ts env s1) (λ vs s2. Gives (v ∷ vs) s2))

-- with a bound that is at least the turns left
abbrev pub run : List ModuleTree → ℕ → Lower
run program zero m t env s = Spends s
run program (suc b) m t env s = ev program m (run program b) t env s
