-- The meaning of C: big-step over statements. Each iteration of a labelled `for` first takes a turn. What no runnable program has (symbols, entries, `BGL_CATCH`, `BGL_PROTECT`) has no meaning yet, and fails.
use Rattle.std.specs.Prelude.{ℕ, zero, suc, List, [], ◌∷◌, ◌++◌, map, if◌then◌else◌, Bool, Option, Some, None, find}
use Rattle.scheme_data.specs.Names.{is_same}
use Rattle.base_io.specs.declared.end.FaultKind.TheVariants.{Entry, Tag}
use Rattle.c_tree.specs.declared.tree.CAtom.{CAtom}
use Rattle.c_tree.specs.declared.tree.CAtom.TheVariants as atoms
use Rattle.c_tree.specs.declared.tree.CArg.{CArg}
use Rattle.c_tree.specs.declared.tree.CArg.TheVariants as arg
use Rattle.c_tree.specs.declared.tree.Callee.{Callee}
use Rattle.c_tree.specs.declared.tree.Callee.TheVariants as callee
use Rattle.c_tree.specs.declared.tree.CExpr.{CExpr}
use Rattle.c_tree.specs.declared.tree.CExpr.TheVariants as expr
use Rattle.c_tree.specs.Code.{Code, done, assign, call, return, test, loop, ended, goto, catch, protect, Fun}
use Rattle.c_meaning.specs.Word.{False, True, Nil, Unspec, Eof}
use Rattle.c_meaning.specs.State.{Cell, AWord, ANumber, State, Frame, put, blank, frame_of, Answer, Has, Faults, Flow, Next, Goes, Returns, Escapes, Raises, Spends, Fails, with, chosen, after, answer, take_turn}
use Rattle.c_meaning.specs.Operations.{Argument, ACell, AString, operate}

-- the names of a function's parameters and locals: a local stands for its position in them
abbrev pub Names : Type 0
Names = List (List ℕ)

-- the position of a name, and the length where it isn't there
abbrev pub position_of : List ℕ → Names → ℕ
position_of x [] = 0
position_of x (y ∷ ys) = if is_same x y then 0 else suc (position_of x ys)

abbrev pub names_of : Fun → Names
names_of f = map (λ v. v.name) (f.params ++ f.locals)

abbrev pub atom : Names → Frame → CAtom → Cell
atom names f (atoms.Int n) = ANumber n
atom names f (atoms.Name x) = f (position_of x names)
atom names f (atoms.Sym x) = AWord Unspec
atom names f atoms.False = AWord False
atom names f atoms.True = AWord True
atom names f atoms.Nil = AWord Nil
atom names f atoms.Unspec = AWord Unspec
atom names f atoms.Eof = AWord Eof

abbrev pub argument : Names → Frame → CArg → Argument
argument names f (arg.Atom a) = ACell (atom names f a)
argument names f (arg.Str text) = AString text
argument names f (arg.Entry name) = AString name

abbrev pub arguments : Names → Frame → List CArg → List Argument
arguments names f args = map (argument names f) args

-- the cells among the arguments; a call of a function has no string
abbrev pub cells : List Argument → List Cell
cells [] = []
cells (ACell c ∷ others) = c ∷ cells others
cells (AString t ∷ others) = cells others

-- what statements do after a turn was taken, with a smaller bound
abbrev pub Lower : Type 0
Lower = Names → Code → Frame → State → Flow

-- after an iteration of the loop
abbrev pub again : Lower → Names → List ℕ → Code → Flow → Flow
again lower names l body (Next f s) = lower names (loop l body done) f s
again lower names l body (Goes l' f s) = if is_same l' l then lower names (loop l body done) f s else Goes l' f s
again lower names l body (Returns c s) = Returns c s
again lower names l body (Escapes x w f s) = Escapes x w f s
again lower names l body (Raises c t s) = Raises c t s
again lower names l body (Spends s) = Spends s
again lower names l body (Fails k s) = Fails k s

abbrev pub iterate : Lower → Names → List ℕ → Code → Frame → State → Flow
iterate lower names l body f s = take_turn s (λ s1. again lower names l body (lower names body f s1))

-- a frame: the arguments, and then the locals
abbrev pub entry : Fun → List Cell → Frame
entry f cs = frame_of (cs ++ map (λ v. blank v.ty) f.locals)

-- the statements of a function that is called are one loop
abbrev pub looped : Lower → Names → Code → Frame → State → Flow
looped lower names (loop l body rest) f s = iterate lower names l body f s
looped lower names done f s = Fails Entry s
looped lower names (assign x e rest) f s = Fails Entry s
looped lower names (call c rest) f s = Fails Entry s
looped lower names (return e rest) f s = Fails Entry s
looped lower names (test e a b rest) f s = Fails Entry s
looped lower names (ended body l rest) f s = Fails Entry s
looped lower names (goto l rest) f s = Fails Entry s
looped lower names (catch k r body rest) f s = Fails Entry s
looped lower names (protect a b rest) f s = Fails Entry s

abbrev pub enter : Lower → Option Fun → List Cell → State → Answer
enter lower (Some f) cs s = answer (looped lower (names_of f) f.code (entry f cs) s)
enter lower None cs s = Faults Entry s

abbrev pub is_called : List ℕ → Fun → Bool
is_called name f = is_same f.name name

abbrev pub fun_named : List Fun → List ℕ → Option Fun
fun_named p name = find (is_called name) p

-- a `goto` behind a block goes on after its label
abbrev pub arrived : List ℕ → Flow → Flow
arrived l (Next f s) = Next f s
arrived l (Goes l' f s) = if is_same l' l then Next f s else Goes l' f s
arrived l (Returns c s) = Returns c s
arrived l (Escapes x w f s) = Escapes x w f s
arrived l (Raises c t s) = Raises c t s
arrived l (Spends s) = Spends s
arrived l (Fails k s) = Fails k s

-- A function's statements, where functions that are called do this.
module _ (p : List Fun) (called : Option Fun → List Cell → State → Answer) (lower : Lower) where
  abbrev pub invoke_by : Callee → List Argument → State → Answer
  invoke_by (callee.Fun g) args s = called (fun_named p g) (cells args) s
  invoke_by (callee.Op op) args s = operate op args s

  abbrev pub eval_by : Names → CExpr → Frame → State → Answer
  eval_by names (expr.Atom a) f s = Has (atom names f a) s
  eval_by names (expr.Call c) f s = invoke_by c.callee (arguments names f c.args) s

  abbrev pub exec_by : Names → Code → Frame → State → Flow
  exec_by names done f s = Next f s
  exec_by names (assign x e rest) f s = with (eval_by names e f s) f (λ c s1. exec_by names rest (put (position_of x names) c f) s1)
  exec_by names (call c rest) f s = with (eval_by names (expr.Call c) f s) f (λ _ s1. exec_by names rest f s1)
  exec_by names (return e rest) f s = with (eval_by names e f s) f (λ c s1. Returns c s1)
  exec_by names (test e a b rest) f s =
      with (eval_by names e f s) f (λ c s1. after (chosen c s1 (exec_by names a f s1) (exec_by names b f s1)) (λ f1 s2. exec_by names rest f1 s2))
  exec_by names (loop l body rest) f s = after (iterate lower names l body f s) (λ f1 s1. exec_by names rest f1 s1)
  exec_by names (ended body l rest) f s = after (arrived l (exec_by names body f s)) (λ f1 s1. exec_by names rest f1 s1)
  exec_by names (goto l rest) f s = Goes l f s
  exec_by names (catch k r body rest) f s = Fails Tag s
  exec_by names (protect a b rest) f s = Fails Tag s

-- in a function of a module, in a maker and in an initialisation: they call functions of modules alone
abbrev pub exec : List Fun → Lower → Names → Code → Frame → State → Flow
exec p lower names c f s = exec_by p (enter lower) lower names c f s

-- what `main` calls: a function of a module, or one without a loop, which takes no turn
abbrev pub enter_any : List Fun → Lower → Option Fun → List Cell → State → Answer
enter_any p lower None cs s = Faults Entry s
enter_any p lower (Some f) cs s = answer (exec p lower (names_of f) f.code (entry f cs) s)

-- in `main`
abbrev pub exec_main : List Fun → Lower → Names → Code → Frame → State → Flow
exec_main p lower names c f s = exec_by p (enter_any p lower) lower names c f s

-- with a bound that is at least the turns left
abbrev pub run : List Fun → ℕ → Lower
run p zero names c f s = Spends s
run p (suc b) names c f s = exec p (run p b) names c f s
