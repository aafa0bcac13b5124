-- What a state of the machine stands for.
use Rattle.std.specs.Prelude.{◌≡◌, ℕ, suc, ◌+◌, ◌-◌, ◌*◌, ◌<◌, ◌≤◌, min, List, [], ◌∷◌, ◌++◌, map, length, Option, Some, None, slice_get, true, ◌⊎◌}
use Rattle.base_io.specs.declared.end.End.TheVariants.{Fault}
use Rattle.base_io.specs.declared.end.FaultKind.TheVariants.{Tag}
use Rattle.base_io.specs.Observation.{Observation}
use Rattle.c_tree.specs.declared.tree.CTy.{CTy}
use Rattle.c_tree.specs.declared.tree.CTy.TheVariants.{Int}
use Rattle.c_tree.specs.declared.tree.CExpr.{CExpr}
use Rattle.c_tree.specs.declared.tree.CVar.{CVar}
use Rattle.c_tree.specs.declared.function.CFun.{CFun}
use Rattle.c_tree.specs.Code.{Code, done, assign, call, return, test, loop, ended, goto, catch, protect, Fun}
use Rattle.c_tree.specs.Functions.{fun_of}
use Rattle.c_meaning.specs.State.{Cell, State, Frame, put, Answer, Flow, Next, Returns, with, after, chosen, answer}
use Rattle.c_meaning.specs.Execution.{Names, position_of, again, enter, enter_any, eval_by, exec_by, run, fun_named}
use Rattle.c_meaning.specs.Program.{shown}
use Rattle.c_meaning.specs.Plain.{Role, Main, Maker, Initializer, Entry, Function as Module_function, role_of, Signature, signature_named, code_fits}
use Rattle.c_machine.specs.declared.program.Target.{Target}
use Rattle.c_machine.specs.declared.program.Target.TheVariants as target
use Rattle.c_machine.specs.declared.program.Instr.{Instr}
use Rattle.c_machine.specs.declared.program.Instr.TheVariants as instr
use Rattle.c_machine.specs.declared.program.Line.{Line}
use Rattle.c_machine.specs.declared.program.Function.{Function}
use Rattle.c_machine.specs.declared.stepping.Frame.{Frame as Waiter}
use Rattle.c_machine.specs.Steps.{Config, Move, Goes, Ends, Needs, act, line_at, advanced}
use Rattle.c_machine.specs.Decoded.{line, call_of, expr_instr, code_of, variables_of, variable_names, functions_of, function_names}
use Rattle.c_machine.proofs.Typing.{slot_of, Fits, Holds}

-- Programs ----------------------------------------------------------------------------------

abbrev pub meant : List CFun → List Fun
meant fs = map fun_of fs

abbrev pub decoded : List CFun → List Function
decoded fs = functions_of (function_names fs) fs

-- a function's statements: one loop, or others
pub data Shape : Type 0 where
  Straight : Code → Shape
  Looped : List ℕ → Code → Shape

abbrev pub shape_of : Code → Shape
shape_of (loop l body done) = Looped l body
shape_of c = Straight c

-- the statements of a function, or of the block of its loop
abbrev pub statements_of : Shape → Code
statements_of (Straight c) = c
statements_of (Looped l c) = c

abbrev pub last_in : Shape → Instr
last_in (Straight c) = instr.Stop
last_in (Looped l c) = instr.Turn

abbrev pub statements_in : CFun → Code
statements_in f = (fun_of f).code

abbrev pub shape_in : CFun → Shape
shape_in f = shape_of (statements_in f)

abbrev pub names_in : CFun → Names
names_in f = variable_names (variables_of f)

-- what a function has left where it begins: a loop first has its turn
abbrev pub first_left : Shape → List Code
first_left (Straight c) = c ∷ []
first_left (Looped l c) = []

-- where a function stands: `main` is outer, and what it calls is inner
pub data Level : Type 0 where
  Inner : Level
  Outer : Level

abbrev pub level_by : Role → Level
level_by Main = Outer
level_by Maker = Inner
level_by Initializer = Inner
level_by Entry = Inner
level_by Module_function = Inner

abbrev pub level_in : CFun → Level
level_in f = level_by (role_of f.name)

-- `main` has no loop
abbrev pub ShapeFits : Level → Shape → Type 0
ShapeFits Inner s = Unit {0}
ShapeFits Outer (Straight c) = Unit {0}
ShapeFits Outer (Looped l c) = ⊥

-- what is called from the inner level is a loop
abbrev pub Callable : Level → Shape → Type 0
Callable Inner (Straight c) = ⊥
Callable Inner (Looped l c) = Unit {0}
Callable Outer s = Unit {0}

-- a signature is that of an inner function that is there, and which may be called from a level
pub record Callee (fs : List CFun) (level : Level) (at : ℕ) (g : List ℕ) (s : Signature) : Type 0 where
  pub fun : CFun
  pub there : slice_get fs at ≡ Some fun
  pub found : fun_named (meant fs) g ≡ Some (fun_of fun)
  pub inner : level_in fun ≡ Inner
  pub shape : Callable level (shape_in fun)
  pub params : map (λ v. v.ty) fun.params ≡ s.params
  pub result : fun.result ≡ s.result

abbrev pub Callees : List CFun → Level → (List ℕ → ℕ) → List Signature → Type 0
Callees fs level place sigs = (g : List ℕ) (s : Signature) → signature_named sigs g ≡ Some s → Callee fs level (place g) g s

-- a function whose statements have the types that are wanted
pub record Typed (fs : List CFun) (place : List ℕ → ℕ) (f : CFun) : Type 0 where
  pub sigs : List Signature
  pub callees : Callees fs (level_in f) place sigs
  pub shape : ShapeFits (level_in f) (shape_in f)
  pub fits : code_fits sigs (variables_of f) f.result (statements_of (shape_in f)) ≡ true

abbrev pub AllTyped : List CFun → (List ℕ → ℕ) → Type 0
AllTyped fs place = (k : ℕ) (f : CFun) → slice_get fs k ≡ Some f → Typed fs place f

-- Places ------------------------------------------------------------------------------------

-- the nearest place where a function may go on after an instruction
abbrev pub nearest : Target → ℕ → ℕ
nearest (target.Local x) next = next
nearest target.Nowhere next = next
nearest target.Caller next = next
nearest (target.Test other) next = min other next

-- an instruction stands at a place, and the function goes on ahead of it
pub record Stepping (code : List Line) (at : ℕ) (to : Target) (i : Instr) (next : ℕ) : Type 0 where
  pub there : slice_get code at ≡ Some (line i next)
  pub ahead : at < nearest to next

module _ (names funs : Names) (code : List Line) where
  -- from a place on, these statements stand there, after which the function goes on at another. No other statement stands in a block of a plain program
  unfoldable pub Leads : Code → ℕ → ℕ → Type 0
  Leads done at on = at ≡ on
  Leads (assign x e rest) at on =
      (next : ℕ) × Stepping code at (target.Local (position_of x names)) (expr_instr names funs (target.Local (position_of x names)) e) next × Leads rest next on
  Leads (call c rest) at on = (next : ℕ) × Stepping code at target.Nowhere (call_of names funs target.Nowhere c.callee c.args) next × Leads rest next on
  Leads (return e rest) at on = (next : ℕ) × Stepping code at target.Caller (expr_instr names funs target.Caller e) next × Leads rest next on
  Leads (test e a b rest) at on =
      (next : ℕ) × (other : ℕ) × (after : ℕ) × Stepping code at (target.Test other) (expr_instr names funs (target.Test other) e) next
      × Leads a next after × Leads b other after × Leads rest after on
  Leads (loop l body rest) at on = Unit {0}
  Leads (ended body l rest) at on = Unit {0}
  Leads (goto l rest) at on = Unit {0}
  Leads (catch k r body rest) at on = Unit {0}
  Leads (protect a b rest) at on = Unit {0}

  -- from a place on, these pieces of code stand there, and then the last instruction
  unfoldable pub LeadsAll : Instr → List Code → ℕ → Type 0
  LeadsAll last [] at = (next : ℕ) × (slice_get code at ≡ Some (line last next))
  LeadsAll last (c ∷ cs) at = (on : ℕ) × Leads c at on × LeadsAll last cs on

-- pieces of code have the types that are wanted
abbrev pub AllFit : List Signature → List CVar → CTy → List Code → Type 0
AllFit sigs vars result [] = Unit {0}
AllFit sigs vars result (c ∷ cs) = (code_fits sigs vars result c ≡ true) × AllFit sigs vars result cs

-- Flows -------------------------------------------------------------------------------------

-- what becomes of the end of the statements that are left
abbrev pub wrap : List Fun → ℕ → Names → Shape → Flow → Flow
wrap p b names (Straight c) x = x
wrap p b names (Looped l c) x = again (run p (suc b)) names l c x

-- what functions do that are called from a level
abbrev pub enter_at : Level → List Fun → ℕ → Option Fun → List Cell → State → Answer
enter_at Inner p b = enter (run p b)
enter_at Outer p b = enter_any p (run p b)

abbrev pub exec_at : Level → List Fun → ℕ → Names → Code → Frame → State → Flow
exec_at level p b names c fr s = exec_by p (enter_at level p b) (run p b) names c fr s

abbrev pub eval_at : Level → List Fun → ℕ → Names → CExpr → Frame → State → Answer
eval_at level p b names e fr s = eval_by p (enter_at level p b) (run p b) names e fr s

-- these pieces of code, one after the other
abbrev pub flows : Level → List Fun → ℕ → Names → List Code → Frame → State → Flow
flows level p b names [] fr s = Next fr s
flows level p b names (c ∷ cs) fr s = after (exec_at level p b names c fr s) (λ fr1 s1. flows level p b names cs fr1 s1)

-- these pieces of code, and then what follows
abbrev pub flow_of : List Fun → ℕ → CFun → List Code → Frame → State → Flow
flow_of p b f left fr s = wrap p b (names_in f) (shape_in f) (flows (level_in f) p b (names_in f) left fr s)

-- what is done with a value, where one of two is left
abbrev pub delivers : Level → List Fun → ℕ → Names → Target → List Code → List Code → Frame → Cell → State → Flow
delivers level p b names (target.Local x) left other fr c s = flows level p b names left (put x c fr) s
delivers level p b names target.Nowhere left other fr c s = flows level p b names left fr s
delivers level p b names target.Caller left other fr c s = Returns c s
delivers level p b names (target.Test at) left other fr c s = chosen c s (flows level p b names left fr s) (flows level p b names other fr s)

-- a place that a value of this type may go to
abbrev pub TargetFits : List CVar → CTy → CTy → Target → Type 0
TargetFits vars result t (target.Local x) = (v : CVar) × (slice_get vars x ≡ Some v) × (t ≡ v.ty)
TargetFits vars result t target.Nowhere = Unit {0}
TargetFits vars result t target.Caller = t ≡ result
TargetFits vars result t (target.Test at) = t ≡ Int

-- States ------------------------------------------------------------------------------------

abbrev pub config : ℕ → ℕ → List ℕ → List ℕ → ℕ → List Waiter → ℕ → Config
config k pc below env turns frames v = record { fun = k; pc = pc; base = length below; turns = turns; slots = below ++ env; frames = frames; value = v }

module _ (fs : List CFun) (place : List ℕ → ℕ) where
  -- at a place of its code, a function has these pieces left
  pub record Stands (k pc : ℕ) (f : CFun) (left : List Code) (fr : Frame) (env : List ℕ) : Type 0 where
    pub there : slice_get fs k ≡ Some f
    pub sigs : List Signature
    pub callees : Callees fs (level_in f) place sigs
    pub fits : AllFit sigs (variables_of f) f.result left
    pub leads : LeadsAll (names_in f) (function_names fs) (code_of (names_in f) (function_names fs) (statements_in f)) (last_in (shape_in f)) left pc
    pub holds : Holds (variables_of f) fr env

  -- where a value may choose, other pieces are left at another place
  abbrev pub Forks : Target → ℕ → CFun → List Code → Frame → List ℕ → Type 0
  Forks (target.Local x) k f other fr env = Unit {0}
  Forks target.Nowhere k f other fr env = Unit {0}
  Forks target.Caller k f other fr env = Unit {0}
  Forks (target.Test at) k f other fr env = Stands k at f other fr env

  -- a function that waits for the value of a call of another
  pub record Waits (r : Waiter) (below : List ℕ) (turns : ℕ) (callee : CFun) (k : Flow → Observation) : Type 0 where
    pub bound : ℕ
    pub fun : CFun
    pub left : List Code
    pub other : List Code
    pub frame : Frame
    pub env : List ℕ
    pub under : List ℕ
    pub outer : Flow → Observation
    pub stands : Stands r.fun r.next fun left frame env
    pub forks : Forks r.to r.fun fun other frame env
    pub slots : below ≡ under ++ env
    pub base : r.base ≡ length under
    pub enough : turns ≤ bound
    pub inner : level_in callee ≡ Inner
    pub fits : TargetFits (variables_of fun) fun.result callee.result r.to
    pub whole : (x : Flow) → k x ≡ outer (wrap (meant fs) bound (names_in fun) (shape_in fun) (with (answer x) frame (delivers (level_in fun) (meant fs) bound (names_in fun) r.to left other frame)))

  -- what the functions that wait make of the end of the one that runs
  unfoldable pub Callers : List Waiter → List ℕ → ℕ → CFun → (Flow → Observation) → Type 0
  Callers [] below turns f k = (below ≡ []) × (f.result ≡ Int) × ((x : Flow) → k x ≡ shown x)
  Callers (r ∷ rs) below turns f k = (w : Waits r below turns f k) × Callers rs w.under turns w.fun w.outer

  -- a function runs
  pub record Running (c : Config) (o : List ℕ) (w : Observation) : Type 0 where
    pub fn : ℕ
    pub pc : ℕ
    pub below : List ℕ
    pub env : List ℕ
    pub frames : List Waiter
    pub value : ℕ
    pub state : State
    pub bound : ℕ
    pub fun : CFun
    pub left : List Code
    pub frame : Frame
    pub outer : Flow → Observation
    pub is : c ≡ config fn pc below env state.turns frames value
    pub out : o ≡ state.output
    pub stands : Stands fn pc fun left frame env
    pub enough : state.turns ≤ bound
    pub callers : Callers frames below state.turns fun outer
    pub whole : w ≡ outer (flow_of (meant fs) bound fun left frame state)

  -- a function gives its value
  pub record Giving (c : Config) (o : List ℕ) (w : Observation) : Type 0 where
    pub fn : ℕ
    pub below : List ℕ
    pub env : List ℕ
    pub frames : List Waiter
    pub state : State
    pub fun : CFun
    pub cell : Cell
    pub outer : Flow → Observation
    pub is : c ≡ config fn 0 below env state.turns frames (slot_of cell)
    pub out : o ≡ state.output
    pub there : slice_get fs fn ≡ Some fun
    pub fits : Fits fun.result cell
    pub callers : Callers frames below state.turns fun outer
    pub whole : w ≡ outer (Returns cell state)

  -- the rest of the run from this state, with this output so far, is seen like this
  abbrev pub Means : Config → List ℕ → Observation → Type 0
  Means c o w = Running c o w ⊎ Giving c o w

-- Work --------------------------------------------------------------------------------------

-- the steps that are left of an iteration, at most
abbrev pub steps_by : Instr → ℕ → ℕ
steps_by (instr.Does to a) n = 2 * n
steps_by (instr.Call to g args) n = 2 * n
steps_by instr.Turn n = 0
steps_by instr.Give n = 1
steps_by instr.Stop n = 2 * n

abbrev pub steps_from : Option Line → ℕ → ℕ
steps_from None n = 2 * n
steps_from (Some l) n = steps_by l.instr n

abbrev pub left_in : Option Function → ℕ → ℕ
left_in None pc = 0
left_in (Some f) pc = length f.code - pc

abbrev pub left_at : List Function → ℕ → ℕ → ℕ
left_at funs k pc = left_in (slice_get funs k) pc

abbrev pub steps_at : List Function → ℕ → ℕ → ℕ
steps_at funs k pc = steps_from (line_at funs k pc) (left_at funs k pc)

unfoldable pub total : List Function → ℕ
total [] = 0
total (f ∷ funs) = length f.code + total funs

-- a step in `main` weighs more than all steps of a function that it calls, since that may take no turn. No other has functions below it
unfoldable pub weight : List Function → List Waiter → ℕ
weight funs [] = 2 * total funs + 2
weight funs (r ∷ rs) = 1

unfoldable pub steps_in : List Function → List Waiter → ℕ
steps_in funs [] = 0
steps_in funs (r ∷ rs) = weight funs rs * (2 * left_at funs r.fun (nearest r.to r.next) + 1) + steps_in funs rs

unfoldable pub turn_weight : List Function → ℕ
turn_weight funs = (2 * total funs + 2) * (2 * total funs + 1)

-- it falls with each step
unfoldable pub work : List Function → Config → ℕ
work funs c = c.turns * turn_weight funs + (weight funs c.frames * steps_at funs c.fun c.pc + steps_in funs c.frames)

-- Soundness ---------------------------------------------------------------------------------

abbrev pub NeedsAt : Option Line → List Function → Config → Type 0
NeedsAt None funs c = ⊥
NeedsAt (Some l) funs c = Needs l.instr funs (advanced l.next c)

abbrev pub act_at : Option Line → List Function → Config → Move
act_at None funs c = Ends (Fault Tag)
act_at (Some l) funs c = act l.instr funs (advanced l.next c)

module _ (fs : List CFun) (place : List ℕ → ℕ) where
  abbrev pub Kept : Config → List ℕ → Observation → Move → Type 0
  Kept c o w (Goes d bytes) = Means fs place d (o ++ bytes) w × (work (decoded fs) d < work (decoded fs) c)
  Kept c o w (Ends e) = w ≡ record { output = o; end = e }

  -- a step at this line is safe, keeps what the state means, and comes nearer to the end
  abbrev pub Sound : Config → List ℕ → Observation → Option Line → Type 0
  Sound c o w l = NeedsAt l (decoded fs) c × Kept c o w (act_at l (decoded fs) c)
