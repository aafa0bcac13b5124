-- What a program is decoded to: names as numbers, one line a statement.
use Rattle.std.specs.Prelude.{◌≡◌, ℕ, suc, ◌+◌, List, [], ◌∷◌, ◌++◌, map, codes, length, Option, Some, None, slice_get, Bool, true}
use Rattle.std.specs.List.{list_all}
use Rattle.built_table.specs.declared.primitives.Primitive.{Primitive}
use Rattle.built_table.specs.Table.{built}
use Rattle.scheme_data.specs.Names.{are_distinct}
use Rattle.scheme_data.specs.Fixnum.{long_word}
use Rattle.c_tree.specs.declared.op.Op.{Op}
use Rattle.c_tree.specs.declared.op.Op.TheVariants.{BoxLong, BoxBool, UnboxLong, Truth, Raise, Args, Status, Primitive as Prim_op}
use Rattle.c_tree.specs.declared.tree.CAtom.{CAtom}
use Rattle.c_tree.specs.declared.tree.CAtom.TheVariants as atom
use Rattle.c_tree.specs.declared.tree.CArg.{CArg}
use Rattle.c_tree.specs.declared.tree.CArg.TheVariants as arg
use Rattle.c_tree.specs.declared.tree.Callee.{Callee}
use Rattle.c_tree.specs.declared.tree.Callee.TheVariants as callee
use Rattle.c_tree.specs.declared.tree.CExpr.{CExpr}
use Rattle.c_tree.specs.declared.tree.CExpr.TheVariants as expr
use Rattle.c_tree.specs.declared.tree.CVar.{CVar}
use Rattle.c_tree.specs.declared.function.CFun.{CFun}
use Rattle.c_tree.specs.declared.function.CItem.{CItem}
use Rattle.c_tree.specs.declared.function.CItem.TheVariants.{Extern, Global, Declared, Defined}
use Rattle.c_tree.specs.Code.{Code, done, assign, call, return, test, loop, ended, goto, catch, protect}
use Rattle.c_tree.specs.Layout.{size}
use Rattle.c_tree.specs.Functions.{fun_of, items_of}
use Rattle.c_meaning.specs.Word.{False, True, Nil, Unspec, Eof, bits_of}
use Rattle.c_meaning.specs.Execution.{Names, position_of}
use Rattle.c_meaning.specs.Plain.{IsPlain}
use Rattle.c_machine.specs.declared.program.Operand.{Operand}
use Rattle.c_machine.specs.declared.program.Operand.TheVariants as operand
use Rattle.c_machine.specs.declared.program.Operands.{Operands}
use Rattle.c_machine.specs.declared.program.Target.{Target}
use Rattle.c_machine.specs.declared.program.Target.TheVariants as target
use Rattle.c_machine.specs.declared.program.Action.{Action}
use Rattle.c_machine.specs.declared.program.Action.TheVariants as action
use Rattle.c_machine.specs.declared.program.Instr.{Instr}
use Rattle.c_machine.specs.declared.program.Instr.TheVariants as instr
use Rattle.c_machine.specs.declared.program.Line.{Line}
use Rattle.c_machine.specs.declared.program.Function.{Function}
use Rattle.c_machine.specs.Words.{byte_of}

abbrev pub operand_of : Names → CAtom → Operand
operand_of names (atom.Int n) = operand.Word (long_word n)
operand_of names (atom.Name x) = operand.Local (position_of x names)
operand_of names (atom.Sym x) = operand.Word (bits_of Unspec)
operand_of names atom.False = operand.Word (bits_of False)
operand_of names atom.True = operand.Word (bits_of True)
operand_of names atom.Nil = operand.Word (bits_of Nil)
operand_of names atom.Unspec = operand.Word (bits_of Unspec)
operand_of names atom.Eof = operand.Word (bits_of Eof)

-- an argument that is no atom stands where no plain program has one
abbrev pub operand_in : Names → CArg → Operand
operand_in names (arg.Atom a) = operand_of names a
operand_in names (arg.Str text) = operand.Word 0
operand_in names (arg.Entry name) = operand.Word 0

abbrev pub operand_or : Names → Option CArg → Operand
operand_or names None = operand.Word 0
operand_or names (Some a) = operand_in names a

abbrev pub operand_at : Names → List CArg → ℕ → Operand
operand_at names args i = operand_or names (slice_get args i)

abbrev pub operands_in : Names → List CArg → Operands
operands_in names args = record { first = operand_at names args 0; second = operand_at names args 1; third = operand_at names args 2 }

abbrev pub number_in : CAtom → ℕ
number_in (atom.Int n) = byte_of n
number_in (atom.Name x) = 0
number_in (atom.Sym x) = 0
number_in atom.False = 0
number_in atom.True = 0
number_in atom.Nil = 0
number_in atom.Unspec = 0
number_in atom.Eof = 0

abbrev pub code_in : Option CArg → ℕ
code_in None = 0
code_in (Some (arg.Atom a)) = number_in a
code_in (Some (arg.Str text)) = 0
code_in (Some (arg.Entry name)) = 0

abbrev pub text_in : Option CArg → List ℕ
text_in None = []
text_in (Some (arg.Atom a)) = []
text_in (Some (arg.Str text)) = text
text_in (Some (arg.Entry name)) = []

-- what stands where no plain program has an action
abbrev pub no_action : Action
no_action = action.Copy (operand.Word 0)

abbrev pub action_by : Option Primitive → Operands → Action
action_by None o = no_action
action_by (Some p) o = action.Primitive p o

abbrev pub action_of : Names → Op → List CArg → Action
action_of names BoxLong args = action.BoxLong (operand_at names args 0)
action_of names BoxBool args = action.BoxBool (operand_at names args 0)
action_of names UnboxLong args = action.UnboxLong (operand_at names args 0)
action_of names Truth args = action.Truth (operand_at names args 0)
action_of names Raise args = action.Raise (code_in (slice_get args 0)) (text_in (slice_get args 1))
action_of names Args args = action.Args
action_of names Status args = action.Status (operand_at names args 0)
action_of names (Prim_op p) args = action_by (built p) (operands_in names args)
action_of names _ args = no_action

abbrev pub call_of : Names → Names → Target → Callee → List CArg → Instr
call_of names funs to (callee.Fun g) args = instr.Call to (position_of g funs) (map (operand_in names) args)
call_of names funs to (callee.Op op) args = instr.Does to (action_of names op args)

abbrev pub expr_instr : Names → Names → Target → CExpr → Instr
expr_instr names funs to (expr.Atom a) = instr.Does to (action.Copy (operand_of names a))
expr_instr names funs to (expr.Call c) = call_of names funs to c.callee c.args

-- Lines -------------------------------------------------------------------------------------

-- an instruction, and the place where the function goes on after it
abbrev pub line : Instr → ℕ → Line
line i next = record { instr = i; next = next }

-- where code begins that stands at a place: if it is empty, where the function goes on after it
abbrev pub first_of : Code → ℕ → ℕ → ℕ
first_of done at on = on
first_of (assign x e rest) at on = at
first_of (call c rest) at on = at
first_of (return e rest) at on = at
first_of (test e a b rest) at on = at
first_of (loop l body rest) at on = at
first_of (ended body l rest) at on = at
first_of (goto l rest) at on = at
first_of (catch k r body rest) at on = at
first_of (protect a b rest) at on = at

-- the lines of code that stands at a place, in front of others, where the function goes on at another after it: one a statement. Statements that no plain program has stop the run
abbrev pub lines : Names → Names → Code → ℕ → ℕ → List Line → List Line
lines names funs done at on others = others
lines names funs (assign x e rest) at on others = line (expr_instr names funs (target.Local (position_of x names)) e) (first_of rest (suc at) on) ∷ lines names funs rest (suc at) on others
lines names funs (call c rest) at on others = line (call_of names funs target.Nowhere c.callee c.args) (first_of rest (suc at) on) ∷ lines names funs rest (suc at) on others
lines names funs (return e rest) at on others = line (expr_instr names funs target.Caller e) (first_of rest (suc at) on) ∷ lines names funs rest (suc at) on others
lines names funs (test e a b rest) at on others =
    let m = suc at + size a in
    let k = m + size b in
    let after = first_of rest k on in
    line (expr_instr names funs (target.Test (first_of b m after)) e) (first_of a (suc at) after)
    ∷ lines names funs a (suc at) after (lines names funs b m after (lines names funs rest k on others))
lines names funs (loop l body rest) at on others =
    let k = suc at + size body in
    let after = first_of rest k on in
    line instr.Turn (first_of body (suc at) after) ∷ lines names funs body (suc at) after (lines names funs rest k on others)
lines names funs (ended body l rest) at on others =
    let k = suc at + size body in
    let after = first_of rest k on in
    line instr.Stop (first_of body (suc at) after) ∷ lines names funs body (suc at) after (lines names funs rest k on others)
lines names funs (goto l rest) at on others = line instr.Stop (first_of rest (suc at) on) ∷ lines names funs rest (suc at) on others
lines names funs (catch x r body rest) at on others =
    let k = suc at + size body in
    let after = first_of rest k on in
    line instr.Stop (first_of body (suc at) after) ∷ lines names funs body (suc at) after (lines names funs rest k on others)
lines names funs (protect a b rest) at on others =
    let m = suc at + size a in
    let k = m + size b in
    let after = first_of rest k on in
    line instr.Stop (first_of a (suc at) after) ∷ lines names funs a (suc at) after (lines names funs b m after (lines names funs rest k on others))

-- what stands at the end: the turn that begins the block of a loop again
abbrev pub last_of : Code → Instr
last_of (loop l body rest) = instr.Turn
last_of _ = instr.Stop

-- a function first has the instruction that gives its value
abbrev pub code_of : Names → Names → Code → List Line
code_of names funs c = line instr.Give 1 ∷ lines names funs c 1 (suc (size c)) (line (last_of c) (suc (size c)) ∷ [])

-- Functions ---------------------------------------------------------------------------------

abbrev pub variables_of : CFun → List CVar
variables_of f = f.params ++ f.locals

abbrev pub variable_names : List CVar → Names
variable_names vars = map (λ v. v.name) vars

abbrev pub function_of : Names → CFun → Function
function_of funs f = record { locals = length f.locals; code = code_of (variable_names (variables_of f)) funs (fun_of f).code }

abbrev pub definition_in : CItem → List CFun
definition_in (Extern v) = []
definition_in (Global v) = []
definition_in (Declared ty name params) = []
definition_in (Defined f) = f ∷ []

unfoldable pub definitions : List CItem → List CFun
definitions [] = []
definitions (i ∷ is) = definition_in i ++ definitions is

abbrev pub function_names : List CFun → Names
function_names fs = map (λ f. f.name) fs

abbrev pub functions_of : Names → List CFun → List Function
functions_of funs fs = map (function_of funs) fs

-- the names of functions are distinct, and so are those of the variables of each
abbrev pub has_distinct : CFun → Bool
has_distinct f = are_distinct (variable_names (variables_of f))

pub record HasNames (items : List CItem) : Type 0 where
  pub functions : are_distinct (function_names (definitions items)) ≡ true
  pub variables : list_all has_distinct (definitions items) ≡ true

-- a plain program and what it is decoded to
pub record IsDecoded (items : List CItem) (functions : List Function) (main : ℕ) : Type 0 where
  pub checked : IsPlain (items_of items)
  pub functions_are : functions ≡ functions_of (function_names (definitions items)) (definitions items)
  pub main_is : main ≡ position_of (codes "main") (function_names (definitions items))
