-- Plain programs: those of the forms that the machine runs so far, which break no rule, as one test. A program is plain exactly where it is checked and runnable.
use Rattle.std.specs.Prelude.{ℕ, List, [], ◌∷◌, ◌++◌, map, find, filter, nat_le, nat_lt, ℤ, pos, negsuc, Bool, true, false, not, ◌&&◌, ◌||◌, if◌then◌else◌, IsTrue, Option, Some, None, is_some}
use Rattle.std.specs.List.{list_all, list_any}
use Rattle.scheme_data.specs.Names.{is_same, are_distinct}
use Rattle.scheme_data.specs.Fixnum.{is_fixnum}
use Rattle.prim_table.specs.Errors.{number_of}
use Rattle.prim_table.specs.declared.errors.ErrCode.TheVariants.{WrongType, ZeroDivisor}
use Rattle.c_tree.specs.declared.op.Wants.{Wants}
use Rattle.c_tree.specs.declared.op.Wants.TheVariants.{AType, AnError, AText}
use Rattle.c_tree.specs.declared.op.Op.{Op}
use Rattle.c_tree.specs.declared.op.Op.TheVariants.{BoxLong, BoxBool, UnboxLong, Truth, Raise, Args, Status, Primitive as Does}
use Rattle.built_table.specs.Table.{built}
use Rattle.c_tree.specs.Operations.{wants_of, gives_of}
use Rattle.c_tree.specs.declared.tree.CTy.{CTy}
use Rattle.c_tree.specs.declared.tree.CTy.TheVariants.{Obj, Long, Char, Int}
use Rattle.c_tree.specs.declared.tree.CAtom.{CAtom}
use Rattle.c_tree.specs.declared.tree.CAtom.TheVariants as atom
use Rattle.c_tree.specs.declared.tree.CArg.{CArg}
use Rattle.c_tree.specs.declared.tree.CArg.TheVariants as arg
use Rattle.c_tree.specs.declared.tree.Callee.{Callee}
use Rattle.c_tree.specs.declared.tree.Callee.TheVariants as callee
use Rattle.c_tree.specs.declared.tree.CExpr.{CExpr}
use Rattle.c_tree.specs.declared.tree.CExpr.TheVariants as expr
use Rattle.c_tree.specs.declared.tree.CVar.{CVar}
use Rattle.c_tree.specs.Code.{Code, done, assign, call, return, test, loop, ended, goto, catch, protect, Fun, Item, external, global, declared, defined}
use Rattle.c_tree.specs.Names.{is_main, is_maker, is_initializer, is_entry}

abbrev pub same_type : CTy → CTy → Bool
same_type Obj Obj = true
same_type Long Long = true
same_type Char Char = true
same_type Int Int = true
same_type _ _ = false

abbrev pub same_types : List CTy → List CTy → Bool
same_types [] [] = true
same_types (t ∷ ts) (u ∷ us) = same_type t u && same_types ts us
same_types _ _ = false

-- Signatures --------------------------------------------------------------------------------

pub record Signature : Type 0 where
  pub name : List ℕ
  pub result : CTy
  pub params : List CTy

-- a global has no parameters
abbrev pub signature_of : Item → Signature
signature_of (external v) = record { name = v.name; result = v.ty; params = [] }
signature_of (global v) = record { name = v.name; result = v.ty; params = [] }
signature_of (declared t name params) = record { name = name; result = t; params = params }
signature_of (defined f) = record { name = f.name; result = f.result; params = map (λ v. v.ty) f.params }

abbrev pub same_signature : Signature → Signature → Bool
same_signature a b = same_type a.result b.result && same_types a.params b.params

-- the signature of a name among those declared so far
abbrev pub signature_named : List Signature → List ℕ → Option Signature
signature_named sigs name = find (λ s. is_same s.name name) sigs

-- Types of expressions ----------------------------------------------------------------------

-- a number fits `long`, and from 0 to 255 `char` and `int`
abbrev pub is_byte : ℤ → Bool
is_byte (pos n) = nat_lt n 256
is_byte (negsuc n) = false

abbrev pub number_fits : ℤ → CTy → Bool
number_fits n Obj = false
number_fits n Long = is_fixnum n
number_fits n Char = is_byte n
number_fits n Int = is_byte n

abbrev pub is_typed : CTy → Option CVar → Bool
is_typed t None = false
is_typed t (Some v) = same_type t v.ty

-- the variable of a name
abbrev pub variable_named : List CVar → List ℕ → Option CVar
variable_named vars x = find (λ v. is_same v.name x) vars

abbrev pub atom_fits : List CVar → CAtom → CTy → Bool
atom_fits vars (atom.Int n) t = number_fits n t
atom_fits vars (atom.Name x) t = is_typed t (variable_named vars x)
atom_fits vars (atom.Sym x) t = false
atom_fits vars atom.False t = same_type t Obj
atom_fits vars atom.True t = same_type t Obj
atom_fits vars atom.Nil t = same_type t Obj
atom_fits vars atom.Unspec t = same_type t Obj
atom_fits vars atom.Eof t = same_type t Obj

-- the numbers of errors are those from the first to the last
abbrev pub is_error : ℤ → Bool
is_error (pos n) = nat_le (number_of WrongType) n && nat_le n (number_of ZeroDivisor)
is_error (negsuc n) = false

abbrev pub argument_fits : List CVar → Wants → CArg → Bool
argument_fits vars (AType t) (arg.Atom a) = atom_fits vars a t
argument_fits vars AnError (arg.Atom (atom.Int n)) = is_error n
argument_fits vars AText (arg.Str text) = true
argument_fits vars _ _ = false

abbrev pub arguments_fit : List CVar → List Wants → List CArg → Bool
arguments_fit vars [] [] = true
arguments_fit vars (w ∷ ws) (a ∷ others) = argument_fits vars w a && arguments_fit vars ws others
arguments_fit vars _ _ = false

abbrev pub call_fits_signature : List CVar → Option Signature → List CArg → Option CTy
call_fits_signature vars None args = None
call_fits_signature vars (Some s) args = if arguments_fit vars (map AType s.params) args then Some s.result else None

-- the operations that the machine does so far
abbrev pub is_built_op : Op → Bool
is_built_op BoxLong = true
is_built_op BoxBool = true
is_built_op UnboxLong = true
is_built_op Truth = true
is_built_op Raise = true
is_built_op Args = true
is_built_op Status = true
is_built_op (Does p) = is_some (built p)
is_built_op _ = false

-- the type of a call, where its callee is declared and its arguments fit
abbrev pub call_type : List Signature → List CVar → Callee → List CArg → Option CTy
call_type sigs vars (callee.Fun name) args = call_fits_signature vars (signature_named sigs name) args
call_type sigs vars (callee.Op op) args = if is_built_op op && arguments_fit vars (wants_of op) args then Some (gives_of op) else None

abbrev pub is_the_type : CTy → Option CTy → Bool
is_the_type t None = false
is_the_type t (Some u) = same_type t u

abbrev pub has_type : Option CTy → Bool
has_type None = false
has_type (Some t) = true

abbrev pub expr_fits : List Signature → List CVar → CExpr → CTy → Bool
expr_fits sigs vars (expr.Atom a) t = atom_fits vars a t
expr_fits sigs vars (expr.Call c) t = is_the_type t (call_type sigs vars c.callee c.args)

abbrev pub assigned_fits : List Signature → List CVar → CExpr → Option CVar → Bool
assigned_fits sigs vars e None = false
assigned_fits sigs vars e (Some v) = expr_fits sigs vars e v.ty

-- Statements --------------------------------------------------------------------------------

-- statements without a loop, whose types agree, where the function gives the result type. A condition is an int
abbrev pub code_fits : List Signature → List CVar → CTy → Code → Bool
code_fits sigs vars result done = true
code_fits sigs vars result (assign x e rest) = assigned_fits sigs vars e (variable_named vars x) && code_fits sigs vars result rest
code_fits sigs vars result (call c rest) = has_type (call_type sigs vars c.callee c.args) && code_fits sigs vars result rest
code_fits sigs vars result (return e rest) = expr_fits sigs vars e result && code_fits sigs vars result rest
code_fits sigs vars result (test e a b rest) = expr_fits sigs vars e Int && (code_fits sigs vars result a && (code_fits sigs vars result b && code_fits sigs vars result rest))
code_fits sigs vars result (loop l body rest) = false
code_fits sigs vars result (ended body l rest) = false
code_fits sigs vars result (goto l rest) = false
code_fits sigs vars result (catch k r body rest) = false
code_fits sigs vars result (protect a b rest) = false

-- the last statement is `return`
abbrev pub returns_last : Code → Bool
returns_last done = false
returns_last (assign x e rest) = returns_last rest
returns_last (call c rest) = returns_last rest
returns_last (return e done) = true
returns_last (return e rest) = returns_last rest
returns_last (test e a b rest) = returns_last rest
returns_last (loop l body rest) = returns_last rest
returns_last (ended body l rest) = returns_last rest
returns_last (goto l rest) = returns_last rest
returns_last (catch k r body rest) = returns_last rest
returns_last (protect a b rest) = returns_last rest

-- Functions ---------------------------------------------------------------------------------

abbrev pub variables_of : Fun → List CVar
variables_of f = f.params ++ f.locals

-- the statements of a module's function are one labelled `for`
abbrev pub is_looped : List Signature → List CVar → CTy → Code → Bool
is_looped sigs vars result (loop l body done) = code_fits sigs vars result body
is_looped sigs vars result _ = false

-- what a function is, by its name: `main`, the maker or the initialisation of a module, an entry, or a function of a module
pub data Role : Type 0 where
  Main : Role
  Maker : Role
  Initializer : Role
  Entry : Role
  Function : Role

abbrev pub role_of : List ℕ → Role
role_of name = if is_main name then Main else (if is_maker name then Maker else (if is_initializer name then Initializer else (if is_entry name then Entry else Function)))

-- a function without a loop takes `void` and gives a type
abbrev pub takes_nothing : CTy → CTy → List CTy → Bool
takes_nothing t result params = same_type result t && same_types params []

abbrev pub head_fits : Role → CTy → List CTy → Bool
head_fits Main result params = takes_nothing Int result params
head_fits Maker result params = takes_nothing Obj result params
head_fits Initializer result params = takes_nothing Obj result params
head_fits Entry result params = false
head_fits Function result params = true

-- and ends with `return`
abbrev pub is_straight : List Signature → CTy → Fun → Bool
is_straight sigs t f = takes_nothing t f.result (map (λ v. v.ty) f.params) && (code_fits sigs f.locals t f.code && returns_last f.code)

abbrev pub has_shape : List Signature → Role → Fun → Bool
has_shape sigs Main f = is_straight sigs Int f
has_shape sigs Maker f = is_straight sigs Obj f
has_shape sigs Initializer f = is_straight sigs Obj f
has_shape sigs Entry f = false
has_shape sigs Function f = is_looped sigs (variables_of f) f.result f.code

abbrev pub function_fits : List Signature → Fun → Bool
function_fits sigs f = are_distinct (map (λ v. v.name) (variables_of f)) && has_shape sigs (role_of f.name) f

-- `main` calls all but itself, a maker calls nothing, and the others call functions of modules
abbrev pub may_call : Role → Role → Bool
may_call Main Main = false
may_call Main Maker = true
may_call Main Initializer = true
may_call Main Entry = false
may_call Main Function = true
may_call Maker r = false
may_call Entry r = false
may_call Initializer Function = true
may_call Initializer _ = false
may_call Function Function = true
may_call Function _ = false

-- what a function may call: what is declared before its body and defined in the text, by its role
abbrev pub callable : Role → List (List ℕ) → List Signature → List Signature
callable role names sigs = filter (λ s. may_call role (role_of s.name) && list_any (is_same s.name) names) sigs

abbrev pub item_fits : List (List ℕ) → List Signature → Item → Bool
item_fits names sigs (external v) = false
item_fits names sigs (global v) = false
item_fits names sigs (declared t name params) = head_fits (role_of name) t params
item_fits names sigs (defined f) = function_fits (callable (role_of f.name) names sigs) f

-- Programs ----------------------------------------------------------------------------------

-- declarations of one name agree
abbrev pub agrees : List Signature → Signature → Bool
agrees sigs s = list_all (λ t. not (is_same t.name s.name) || same_signature t s) sigs

-- the items after those of these signatures, the newest first, where these names are defined in the text. The head of a function counts as declared in its own body
abbrev pub items_fit : List (List ℕ) → List Signature → List Item → Bool
items_fit names sigs [] = true
items_fit names sigs (i ∷ is) = (agrees sigs (signature_of i) && item_fits names (signature_of i ∷ sigs) i) && items_fit names (signature_of i ∷ sigs) is

abbrev pub defined_names : List Item → List (List ℕ)
defined_names [] = []
defined_names (external v ∷ is) = defined_names is
defined_names (global v ∷ is) = v.name ∷ defined_names is
defined_names (declared t name params ∷ is) = defined_names is
defined_names (defined f ∷ is) = f.name ∷ defined_names is

-- no rule is broken, and no function is defined twice
unfoldable pub is_sound : List Item → Bool
is_sound items = are_distinct (defined_names items) && items_fit (defined_names items) [] items

-- Whole programs ----------------------------------------------------------------------------

-- makers and initialisations are called once
abbrev pub is_called_once : List ℕ → Bool
is_called_once name = is_maker name || is_initializer name

-- those that a call names
abbrev pub once_in_callee : Callee → List (List ℕ)
once_in_callee (callee.Fun name) = if is_called_once name then name ∷ [] else []
once_in_callee (callee.Op op) = []

abbrev pub once_in_expr : CExpr → List (List ℕ)
once_in_expr (expr.Atom a) = []
once_in_expr (expr.Call c) = once_in_callee c.callee

-- and those that statements call, in text order
abbrev pub once_in : Code → List (List ℕ)
once_in done = []
once_in (assign x e rest) = once_in_expr e ++ once_in rest
once_in (call c rest) = once_in_callee c.callee ++ once_in rest
once_in (return e rest) = once_in_expr e ++ once_in rest
once_in (test e a b rest) = once_in_expr e ++ (once_in a ++ (once_in b ++ once_in rest))
once_in (loop l body rest) = once_in body ++ once_in rest
once_in (ended body l rest) = once_in body ++ once_in rest
once_in (goto l rest) = once_in rest
once_in (catch k r body rest) = once_in body ++ once_in rest
once_in (protect a b rest) = once_in a ++ (once_in b ++ once_in rest)

abbrev pub once_in_main : List Item → List (List ℕ)
once_in_main [] = []
once_in_main (external v ∷ is) = once_in_main is
once_in_main (global v ∷ is) = once_in_main is
once_in_main (declared t name params ∷ is) = once_in_main is
once_in_main (defined f ∷ is) = if is_main f.name then once_in f.code else once_in_main is

-- each of these that is declared or defined is among the called
abbrev pub all_called : List (List ℕ) → List (List ℕ) → Bool
all_called called names = list_all (λ name. not (is_called_once name) || list_any (is_same name) called) names

abbrev pub item_names : List Item → List (List ℕ)
item_names items = map (λ i. (signature_of i).name) items

-- `main` calls each maker and each initialisation, at one place of its text
abbrev pub calls_each_once : List Item → Bool
calls_each_once items = are_distinct (once_in_main items) && all_called (once_in_main items) (item_names items)

-- and `main` is there
unfoldable pub is_plain : List Item → Bool
is_plain items = is_sound items && (list_any is_main (defined_names items) && calls_each_once items)

abbrev pub IsPlain : List Item → Type 0
IsPlain items = IsTrue (is_plain items)
