-- What breaks a rule, in the order of the tokens. A breach stands at the first token that breaks a rule; a want stands at the closing brace of its function or at the end of the text.
use Rattle.std.specs.Prelude.{ℕ, List, [], ◌∷◌, ◌++◌, codes, map, nat_le, ℤ, pos, negsuc, Bool, true, false, not, ◌&&◌, ◌||◌, if◌then◌else◌, Option, Some, None, is_some}
use Rattle.std.specs.List.{list_any}
use Rattle.std.specs.Option.{option_map}
use Rattle.scheme_data.specs.Names.{is_same}
use Rattle.c_tree.specs.declared.op.Op.{Op}
use Rattle.c_tree.specs.declared.op.Op.TheVariants.{Call as Calls}
use Rattle.c_tree.specs.declared.op.Wants.{Wants}
use Rattle.c_tree.specs.declared.op.Wants.TheVariants.{AType, AnError, AText, AnEntry, AnArity, Slots, ASlot}
use Rattle.c_tree.specs.Operations.{wants_of, takes_more, gives_of}
use Rattle.c_tree.specs.declared.tree.CTy.{CTy}
use Rattle.c_tree.specs.declared.tree.CTy.TheVariants.{Obj, Int}
use Rattle.c_tree.specs.declared.tree.CAtom.{CAtom}
use Rattle.c_tree.specs.declared.tree.CAtom.TheVariants as atom
use Rattle.c_tree.specs.declared.tree.CArg.{CArg}
use Rattle.c_tree.specs.declared.tree.CArg.TheVariants as arg
use Rattle.c_tree.specs.declared.tree.Callee.{Callee}
use Rattle.c_tree.specs.declared.tree.Callee.TheVariants as callee
use Rattle.c_tree.specs.declared.tree.CCall.{CCall}
use Rattle.c_tree.specs.declared.tree.CExpr.{CExpr}
use Rattle.c_tree.specs.declared.tree.CExpr.TheVariants as expr
use Rattle.c_tree.specs.declared.tree.CVar.{CVar}
use Rattle.c_tree.specs.Code.{Code, done, assign, call, return, test, loop, ended, goto, catch, protect}
use Rattle.c_meaning.specs.declared.breach.BadCause.{BadCause}
use Rattle.c_meaning.specs.declared.breach.BadCause.TheVariants.{Undeclared, Clash, Twice, Types, Label, Shape}
use Rattle.c_meaning.specs.Plain.{same_type, number_fits, variable_named, is_error, Signature, signature_named, Role, Main, Maker, Initializer, Entry, Function, role_of, returns_last}

abbrev pub cause_name : BadCause → List ℕ
cause_name Undeclared = codes "Undeclared"
cause_name Clash = codes "Clash"
cause_name Twice = codes "Twice"
cause_name Types = codes "Types"
cause_name Label = codes "Label"
cause_name Shape = codes "Shape"

-- a rule that is kept or broken here
abbrev pub unless : BadCause → Bool → List BadCause
unless cause true = []
unless cause false = cause ∷ []

abbrev pub has : List (List ℕ) → List ℕ → Bool
has names name = list_any (is_same name) names

-- Where a statement stands ------------------------------------------------------------------

-- what is open around a statement, innermost first: a loop or a block with its label, or a block of `BGL_CATCH` or `BGL_PROTECT`
pub data Open : Type 0 where
  Within : List ℕ → Open
  Held : Open

-- what may stand here: any statement; the one labelled `for` of an `f_` function; nothing behind that
pub data Room : Type 0 where
  Free : Room
  ToLoop : Room
  Over : Room

pub record Scope : Type 0 where
  pub role : Role
  pub result : CTy
  -- of the functions and globals that are declared so far, its own head included
  pub functions : List Signature
  pub globals : List CVar
  -- parameters and locals
  pub variables : List CVar
  -- so far in this function
  pub labels : List (List ℕ)
  pub called : List (List ℕ)
  pub blocks : List Open
  pub room : Room

abbrev pub may_stand : Room → Bool → Bool
may_stand Free is_loop = true
may_stand ToLoop is_loop = is_loop
may_stand Over is_loop = false

-- behind a statement
abbrev pub next_room : Room → Room
next_room Free = Free
next_room ToLoop = Over
next_room Over = Over

-- `goto` stands within what the label names, and leaves no block that is held
abbrev pub may_go : List Open → List ℕ → Bool
may_go [] l = false
may_go (Within m ∷ blocks) l = is_same m l || may_go blocks l
may_go (Held ∷ blocks) l = false

abbrev pub is_held : Open → Bool
is_held Held = true
is_held (Within l) = false

-- `return` leaves no block that is held
abbrev pub may_return : List Open → Bool
may_return blocks = not (list_any is_held blocks)

-- in a block of the statement that opens this
abbrev pub inside : Open → Scope → Scope
inside o s = record s { blocks = o ∷ s.blocks; room = Free }

-- the same block goes on behind a statement
abbrev pub behind : Scope → Scope
behind s = record s { room = next_room s.room }

abbrev pub with_label : List ℕ → Scope → Scope
with_label l s = record s { labels = s.labels ++ l ∷ [] }

-- Atoms and arguments -----------------------------------------------------------------------

abbrev pub type_of : Option CVar → Option CTy
type_of v = option_map (λ w. w.ty) v

-- the type of a local or of a global that is declared
abbrev pub variable_type : Scope → List ℕ → Option CTy
variable_type s x = type_of (variable_named (s.variables ++ s.globals) x)

-- where no type is asked for, any will do
abbrev pub is_asked : Option CTy → CTy → Bool
is_asked None t = true
is_asked (Some u) t = same_type u t

abbrev pub number_asked : Option CTy → ℤ → Bool
number_asked None n = true
number_asked (Some t) n = number_fits n t

abbrev pub name_breaches : Option CTy → Option CTy → List BadCause
name_breaches asked None = Undeclared ∷ []
name_breaches asked (Some t) = unless Types (is_asked asked t)

abbrev pub atom_breaches : Scope → Option CTy → CAtom → List BadCause
atom_breaches s asked (atom.Int n) = unless Types (number_asked asked n)
atom_breaches s asked (atom.Name x) = name_breaches asked (variable_type s x)
atom_breaches s asked (atom.Sym x) = unless Types (is_asked asked Obj)
atom_breaches s asked atom.False = unless Types (is_asked asked Obj)
atom_breaches s asked atom.True = unless Types (is_asked asked Obj)
atom_breaches s asked atom.Nil = unless Types (is_asked asked Obj)
atom_breaches s asked atom.Unspec = unless Types (is_asked asked Obj)
atom_breaches s asked atom.Eof = unless Types (is_asked asked Obj)

abbrev pub is_within : ℕ → ℤ → Bool
is_within most (pos n) = nat_le n most
is_within most (negsuc n) = false

-- the numbers that must be written as they are
abbrev pub is_written : Wants → ℤ → Bool
is_written AnError n = is_error n
is_written AnArity n = is_within 255 n
is_written Slots n = is_within 16777215 n
is_written ASlot n = true
is_written _ n = false

-- an argument where none of its kind is asked for
abbrev pub misplaced : Scope → CArg → List BadCause
misplaced s (arg.Atom (atom.Name x)) = unless Undeclared (is_some (variable_type s x)) ++ Types ∷ []
misplaced s _ = Types ∷ []

abbrev pub is_declared : Scope → List ℕ → Bool
is_declared s name = is_some (signature_named s.functions name)

abbrev pub argument_breaches : Scope → Option Wants → CArg → List BadCause
argument_breaches s (Some (AType t)) (arg.Atom a) = atom_breaches s (Some t) a
argument_breaches s (Some AText) (arg.Str text) = []
argument_breaches s (Some AnEntry) (arg.Entry name) = unless Undeclared (is_declared s name)
argument_breaches s (Some w) (arg.Atom (atom.Int n)) = unless Types (is_written w n)
argument_breaches s _ a = misplaced s a

abbrev pub more_asked : Bool → Option Wants
more_asked more = if more then Some (AType Obj) else None

-- one too many stands at the argument, and one too few at the closing parenthesis
abbrev pub arguments_breaches : Scope → List Wants → Bool → List CArg → List BadCause
arguments_breaches s [] more [] = []
arguments_breaches s (w ∷ ws) more [] = Types ∷ []
arguments_breaches s [] more (a ∷ others) = argument_breaches s (more_asked more) a ++ arguments_breaches s [] more others
arguments_breaches s (w ∷ ws) more (a ∷ others) = argument_breaches s (Some w) a ++ arguments_breaches s ws more others

-- Calls -------------------------------------------------------------------------------------

abbrev pub is_function_role : Role → Bool
is_function_role Function = true
is_function_role role = false

abbrev pub is_function : List ℕ → Bool
is_function name = is_function_role (role_of name)

-- `main` and entries aren't called; makers and initialisations are called once, by `main`; a maker calls nothing, and an entry one function
abbrev pub may_call : Role → List (List ℕ) → List ℕ → Role → Bool
may_call caller called name Main = false
may_call caller called name Entry = false
may_call Main called name Maker = not (has called name)
may_call Main called name Initializer = not (has called name)
may_call caller called name Maker = false
may_call caller called name Initializer = false
may_call Maker called name Function = false
may_call Entry called name Function = not (list_any is_function called)
may_call caller called name Function = true

-- procedures are called neither by makers nor by entries
abbrev pub may_do : Role → Op → Bool
may_do Maker Calls = false
may_do Entry Calls = false
may_do role op = true

abbrev pub result_asked : Option CTy → Option Signature → Bool
result_asked asked None = true
result_asked asked (Some f) = is_asked asked f.result

abbrev pub callee_breaches : Scope → Option CTy → Callee → List BadCause
callee_breaches s asked (callee.Fun name) =
    unless Undeclared (is_declared s name) ++ (unless Types (result_asked asked (signature_named s.functions name)) ++ unless Shape (may_call s.role s.called name (role_of name)))
callee_breaches s asked (callee.Op op) = unless Types (is_asked asked (gives_of op)) ++ unless Shape (may_do s.role op)

abbrev pub params_asked : Option Signature → List Wants
params_asked None = []
params_asked (Some f) = map AType f.params

abbrev pub operands_breaches : Scope → CCall → Callee → List BadCause
operands_breaches s c (callee.Fun name) = arguments_breaches s (params_asked (signature_named s.functions name)) false c.args
operands_breaches s c (callee.Op op) = arguments_breaches s (wants_of op) (takes_more op) c.args

-- at the first token of an expression, and at those behind it
abbrev pub first_breaches : Scope → Option CTy → CExpr → List BadCause
first_breaches s asked (expr.Atom a) = atom_breaches s asked a
first_breaches s asked (expr.Call c) = callee_breaches s asked c.callee

abbrev pub later_breaches : Scope → CExpr → List BadCause
later_breaches s (expr.Atom a) = []
later_breaches s (expr.Call c) = operands_breaches s c c.callee

abbrev pub expr_breaches : Scope → Option CTy → CExpr → List BadCause
expr_breaches s asked e = first_breaches s asked e ++ later_breaches s e

abbrev pub called_in : Callee → List (List ℕ)
called_in (callee.Fun name) = name ∷ []
called_in (callee.Op op) = []

-- the functions that an expression calls
abbrev pub calls_of : CExpr → List (List ℕ)
calls_of (expr.Atom a) = []
calls_of (expr.Call c) = called_in c.callee

abbrev pub after_expr : CExpr → Scope → Scope
after_expr e s = record s { called = s.called ++ calls_of e }

-- Statements --------------------------------------------------------------------------------

-- the functions that statements call, and their labels, in text order
abbrev pub calls_in : Code → List (List ℕ)
calls_in done = []
calls_in (assign x e rest) = calls_of e ++ calls_in rest
calls_in (call c rest) = called_in c.callee ++ calls_in rest
calls_in (return e rest) = calls_of e ++ calls_in rest
calls_in (test e a b rest) = calls_of e ++ (calls_in a ++ (calls_in b ++ calls_in rest))
calls_in (loop l body rest) = calls_in body ++ calls_in rest
calls_in (ended body l rest) = calls_in body ++ calls_in rest
calls_in (goto l rest) = calls_in rest
calls_in (catch k r body rest) = calls_in body ++ calls_in rest
calls_in (protect a b rest) = calls_in a ++ (calls_in b ++ calls_in rest)

abbrev pub labels_in : Code → List (List ℕ)
labels_in done = []
labels_in (assign x e rest) = labels_in rest
labels_in (call c rest) = labels_in rest
labels_in (return e rest) = labels_in rest
labels_in (test e a b rest) = labels_in a ++ (labels_in b ++ labels_in rest)
labels_in (loop l body rest) = l ∷ (labels_in body ++ labels_in rest)
labels_in (ended body l rest) = labels_in body ++ l ∷ labels_in rest
labels_in (goto l rest) = labels_in rest
labels_in (catch k r body rest) = labels_in body ++ labels_in rest
labels_in (protect a b rest) = labels_in a ++ (labels_in b ++ labels_in rest)

-- with what a block has
abbrev pub after_code : Code → Scope → Scope
after_code c s = record s { labels = s.labels ++ labels_in c; called = s.called ++ calls_in c }

abbrev pub in_block : Scope → Scope
in_block s = record s { room = Free }

-- at the first token of a statement, where it is no loop
abbrev pub standing : Scope → List BadCause
standing s = unless Shape (may_stand s.room false)

-- an entry has no loop
abbrev pub may_loop : Role → Bool
may_loop Entry = false
may_loop role = true

abbrev pub local_breaches : Scope → List ℕ → List BadCause
local_breaches s x = name_breaches (Some Obj) (type_of (variable_named s.variables x))

abbrev pub code_breaches : Scope → Code → List BadCause
code_breaches s done = []
code_breaches s (assign x e rest) =
    (name_breaches None (variable_type s x) ++ standing s)
    ++ (expr_breaches s (variable_type s x) e ++ code_breaches (behind (after_expr e s)) rest)
code_breaches s (call c rest) =
    (callee_breaches s None c.callee ++ standing s)
    ++ (operands_breaches s c c.callee ++ code_breaches (behind (after_expr (expr.Call c) s)) rest)
code_breaches s (return e rest) =
    (unless Label (may_return s.blocks) ++ standing s)
    ++ (expr_breaches s (Some s.result) e ++ code_breaches (behind (after_expr e s)) rest)
code_breaches s (test e a b rest) =
    standing s
    ++ (expr_breaches s (Some Int) e
    ++ (code_breaches (in_block (after_expr e s)) a
    ++ (code_breaches (in_block (after_code a (after_expr e s))) b
    ++ code_breaches (behind (after_code b (after_code a (after_expr e s)))) rest)))
code_breaches s (loop l body rest) =
    (unless Twice (not (has s.labels l)) ++ unless Shape (may_loop s.role && may_stand s.room true))
    ++ (code_breaches (inside (Within l) (with_label l s)) body
    ++ code_breaches (behind (after_code body (with_label l s))) rest)
code_breaches s (ended body l rest) =
    standing s
    ++ (code_breaches (inside (Within l) s) body
    ++ (unless Twice (not (has (after_code body s).labels l))
    ++ code_breaches (behind (with_label l (after_code body s))) rest))
code_breaches s (goto l rest) =
    standing s ++ (unless Label (may_go s.blocks l) ++ code_breaches (behind s) rest)
code_breaches s (catch k r body rest) =
    standing s
    ++ (local_breaches s k
    ++ (local_breaches s r
    ++ (code_breaches (inside Held s) body
    ++ code_breaches (behind (after_code body s)) rest)))
code_breaches s (protect a b rest) =
    standing s
    ++ (code_breaches (inside Held s) a
    ++ (code_breaches (inside Held (after_code a s)) b
    ++ code_breaches (behind (after_code b (after_code a s))) rest))

-- at the closing brace: an `f_` function is one labelled `for`, the others end in `return`, and an entry calls a function
abbrev pub is_complete : Role → Code → Bool
is_complete Function done = false
is_complete Function code = true
is_complete Entry code = returns_last code && list_any is_function (calls_in code)
is_complete role code = returns_last code

abbrev pub room_of : Role → Room
room_of Function = ToLoop
room_of role = Free
