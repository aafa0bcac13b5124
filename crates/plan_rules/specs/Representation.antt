-- Which representation a value has, and the statements that change it (after storage use analysis, Serrano and Feeley, ICFP 1996).
use Rattle.std.specs.Prelude.{ℕ, List, [], ◌∷◌, pos, Bool, true, false, Option, Some, None, if◌then◌else◌}
use Rattle.scheme_data.specs.Decimal.{decimal_text}
use Rattle.prim_table.specs.Errors.{number_of}
use Rattle.prim_table.specs.declared.errors.ErrCode.{ErrCode}
use Rattle.prim_table.specs.declared.errors.ErrCode.TheVariants.{WrongType, ArgumentCount}
use Rattle.built_table.specs.declared.primitives.Ty.{Ty}
use Rattle.built_table.specs.declared.primitives.Ty.TheVariants as ty
use Rattle.built_table.specs.Table.{result_of, type_name}
use Rattle.core_tree.specs.declared.tree.Const.{Const}
use Rattle.core_tree.specs.declared.tree.Const.TheVariants as const
use Rattle.core_tree.specs.declared.tree.VarId.{VarId}
use Rattle.core_tree.specs.Tree.{Tree, Constant, Variable, If, Sequence, Call, Primitive}
use Rattle.core_tree.specs.WellFormed.{same_variable}
use Rattle.c_tree.specs.declared.op.Op.{Op}
use Rattle.c_tree.specs.declared.op.Op.TheVariants.{BoxLong, BoxBool, UnboxLong, Truth, Raise}
use Rattle.c_tree.specs.declared.tree.CTy.{CTy}
use Rattle.c_tree.specs.declared.tree.CTy.TheVariants as c_ty
use Rattle.c_tree.specs.declared.tree.CAtom.{CAtom}
use Rattle.c_tree.specs.declared.tree.CAtom.TheVariants as atom
use Rattle.c_tree.specs.declared.tree.CArg.{CArg}
use Rattle.c_tree.specs.declared.tree.CArg.TheVariants as arg
use Rattle.c_tree.specs.declared.tree.Callee.TheVariants as callee
use Rattle.c_tree.specs.declared.tree.CCall.{CCall}
use Rattle.c_tree.specs.declared.tree.CExpr.{CExpr}
use Rattle.c_tree.specs.declared.tree.CExpr.TheVariants as expr
use Rattle.c_meaning.specs.Operations.{truth_number}
use Rattle.plan_rules.specs.declared.rep.Rep.{Rep}
use Rattle.plan_rules.specs.declared.rep.Rep.TheVariants.{Obj, Long, Bool as Truth_rep}

abbrev pub rep_of : Ty → Rep
rep_of ty.Obj = Obj
rep_of ty.Long = Long
rep_of ty.Bool = Truth_rep

abbrev pub c_type_of : Rep → CTy
c_type_of Obj = c_ty.Obj
c_type_of Long = c_ty.Long
c_type_of Truth_rep = c_ty.Int

-- where a variable is: in a local of a representation
pub data Slot : Type 0 where
  PlainAt : Rep → List ℕ → Slot

-- the variables in scope, newest first
abbrev pub Scope : Type 0
Scope = List (VarId × Slot)

abbrev pub slot_of : VarId → Scope → Option Slot
slot_of x [] = None
slot_of x ((y, slot) ∷ scope) = if same_variable x y then Some slot else slot_of x scope

abbrev pub rep_in : Option Slot → Rep
rep_in None = Obj
rep_in (Some (PlainAt r y)) = r

-- a constant's own representation
abbrev pub own_rep : Const → Rep
own_rep (const.Int n) = Long
own_rep (const.Bool b) = Truth_rep

-- a constant comes as a word where one is wanted, else as what it is
abbrev pub constant_rep : Const → Rep → Rep
constant_rep c Obj = Obj
constant_rep c Long = own_rep c
constant_rep c Truth_rep = own_rep c

-- the representation that a node gives its value, where one is wanted
abbrev pub has_of : Scope → Tree → Rep → Rep
has_of scope (Constant c) wanted = constant_rep c wanted
has_of scope (Variable x) wanted = rep_in (slot_of x scope)
has_of scope (If a b c) wanted = Obj
has_of scope (Sequence ts) wanted = Obj
has_of scope (Call g ts) wanted = Obj
has_of scope (Primitive p ts) wanted = rep_of (result_of p)

abbrev pub operation : Op → List CArg → CCall
operation op args = record { callee = callee.Op op; args = args }

-- `bgl_raise(N, "TEXT")`, where N is the error's number
abbrev pub raise : ErrCode → List ℕ → CCall
raise error text = operation Raise (arg.Atom (atom.Int (pos (number_of error))) ∷ arg.Str text ∷ [])

-- its text is the number of arguments that is wanted
abbrev pub raise_count : ℕ → CCall
raise_count n = raise ArgumentCount (decimal_text n)

-- its text is the type that is wanted
abbrev pub raise_type : Ty → CCall
raise_type t = raise WrongType (type_name t)

abbrev pub call_of : List ℕ → List CArg → CCall
call_of name args = record { callee = callee.Fun name; args = args }

abbrev pub local : List ℕ → CArg
local x = arg.Atom (atom.Name x)

abbrev pub truth_atom : Bool → CAtom
truth_atom true = atom.True
truth_atom false = atom.False

-- a constant in a representation that it may have
abbrev pub constant_expr : Const → Rep → Option CExpr
constant_expr (const.Int n) Obj = Some (expr.Call (operation BoxLong (arg.Atom (atom.Int n) ∷ [])))
constant_expr (const.Int n) Long = Some (expr.Atom (atom.Int n))
constant_expr (const.Int n) Truth_rep = None
constant_expr (const.Bool b) Obj = Some (expr.Atom (truth_atom b))
constant_expr (const.Bool b) Long = None
constant_expr (const.Bool b) Truth_rep = Some (expr.Atom (atom.Int (truth_number b)))

-- the condition of an `if`, whose test stands in a local: of a word whether it isn't `#f`, a truth value itself, and 1 for a number
abbrev pub condition : Rep → List ℕ → CExpr
condition Obj y = expr.Call (operation Truth (local y ∷ []))
condition Long y = expr.Atom (atom.Int (pos 1))
condition Truth_rep y = expr.Atom (atom.Name y)

-- what makes an argument's value fit its parameter: nothing, a new local with the value of an operation, or the raising of an error, after which a new local has the number 0.
-- No operation of today's makes a truth value of a word
pub data Step : Type 0 where
  Keep : Step
  Make : Op → Step
  Refuse : Step
  Unbuilt : Step

-- the test of a type and the coercion to its representation are one statement: a box, the unboxing that raises the error of a wrong type, or the raising
abbrev pub step : Ty → Rep → Step
step ty.Obj Obj = Keep
step ty.Obj Long = Make BoxLong
step ty.Obj Truth_rep = Make BoxBool
step ty.Long Obj = Make UnboxLong
step ty.Long Long = Keep
step ty.Long Truth_rep = Refuse
step ty.Bool Obj = Unbuilt
step ty.Bool Long = Refuse
step ty.Bool Truth_rep = Keep
