-- A run only adds to its output.
use Rattle.std.proofs.Common.{◌≡◌, ℕ, zero, suc, Bool, true, false, List, [], ◌∷◌, ◌++◌, Option, Some, None, refl, sym, ap, ◌∙◌, subst, append_assoc, if◌then◌else◌, ⊎_elim}
use Rattle.std.specs.Prelude.{ℤ, pos, negsuc, ◌==◌, ◌+ℤ◌}
use Rattle.std.proofs.lemmas.List.{append-nil}
use Rattle.scheme_data.specs.Names.{is_same}
use Rattle.scheme_data.specs.Fixnum.{is_fixnum}
use Rattle.base_io.specs.Observation.{Observation}
use Rattle.built_table.specs.declared.primitives.Primitive.TheVariants.{Add, Less, Display, Newline}
use Rattle.c_tree.specs.declared.op.Op.{Op}
use Rattle.c_tree.specs.declared.op.Op.TheVariants.{BoxLong, BoxBool, UnboxLong, Truth, Raise, Args, Status, Primitive as Prim_op}
use Rattle.c_tree.specs.declared.function.CFun.{CFun}
use Rattle.c_tree.specs.declared.tree.Callee.{Callee}
use Rattle.c_tree.specs.declared.tree.Callee.TheVariants as callee
use Rattle.c_tree.specs.declared.tree.CExpr.{CExpr}
use Rattle.c_tree.specs.declared.tree.CExpr.TheVariants as expr
use Rattle.c_tree.specs.Code.{Code, done, assign, call, return, test, loop, ended, goto, catch, protect, Fun}
use Rattle.c_meaning.specs.Word.{Word, Fixnum, False, True, Nil, Unspec, Eof, printed}
use Rattle.c_meaning.specs.State.{Cell, AWord, ANumber, State, Frame, put, Answer, Has, Leaves, Stops, Ends, Faults, Flow, Next, Goes, Returns, Escapes, Raises, Spends, Fails, with, chosen, after, answer, take_from}
use Rattle.c_tree.specs.Operations.{wants_of}
use Rattle.c_meaning.specs.Operations.{Argument, are_wanted, word_at, number_at, text_at, fixnum_in, stops, in_range, does, does_built, done as op_done, operate}
use Rattle.base_io.specs.declared.end.FaultKind.TheVariants.{Tag}
use Rattle.prim_table.specs.Errors.{number_of}
use Rattle.prim_table.specs.declared.errors.ErrCode.TheVariants.{Range}
use Rattle.built_table.specs.Table.{built, name_of}
use Rattle.built_table.specs.declared.primitives.Primitive.{Primitive}
use Rattle.c_meaning.specs.Execution.{Names, Lower, position_of, arguments, cells, again, arrived, iterate, looped, entry, names_of, enter, enter_any, invoke_by, eval_by, exec_by, exec, run, fun_named}
use Rattle.c_meaning.specs.Program.{shown}
use Rattle.c_machine.specs.declared.stepping.Frame.{Frame as Waiter}
use Rattle.c_machine.specs.declared.program.Target.{Target}
use Rattle.c_machine.specs.declared.program.Target.TheVariants as target
use Rattle.c_machine.specs.Steps.{Config}
use Rattle.c_machine.proofs.Means.{Shape, Straight, Looped, Level, Inner, Outer, meant, level_in, wrap, enter_at, exec_at, flows, flow_of, delivers, names_in, shape_in, Callers, Running, Giving, Means}

-- the first bytes of these
abbrev pub Begins : List ℕ → List ℕ → Type 0
Begins part whole = (more : List ℕ) × (whole ≡ part ++ more)

pub begins_self : (o : List ℕ) → Begins o o
begins_self o = ([], sym (append-nil o))

pub begins_after : (o q r : List ℕ) → Begins o q → Begins q r → Begins o r
begins_after o q r h k = (h.0 ++ k.0, k.1 ∙ ap (λ (l : List ℕ). l ++ k.0) h.1 ∙ append_assoc o h.0 k.0)

abbrev pub out : Flow → List ℕ
out (Next f s) = s.output
out (Goes l f s) = s.output
out (Returns c s) = s.output
out (Escapes x w f s) = s.output
out (Raises c t s) = s.output
out (Spends s) = s.output
out (Fails k s) = s.output

abbrev out_of : Answer → List ℕ
out_of (Has c s) = s.output
out_of (Leaves x w s) = s.output
out_of (Stops c t s) = s.output
out_of (Ends s) = s.output
out_of (Faults k s) = s.output

with_grows : (o : List ℕ) (a : Answer) (f : Frame) (next : Cell → State → Flow) → Begins o (out_of a) → ((c : Cell) (s : State) → Begins s.output (out (next c s))) → Begins o (out (with a f next))
with_grows o (Has c s) f next h k = begins_after o s.output _ h (k c s)
with_grows o (Leaves x w s) f next h k = h
with_grows o (Stops c t s) f next h k = h
with_grows o (Ends s) f next h k = h
with_grows o (Faults x s) f next h k = h

after_grows : (o : List ℕ) (x : Flow) (next : Frame → State → Flow) → Begins o (out x) → ((f : Frame) (s : State) → Begins s.output (out (next f s))) → Begins o (out (after x next))
after_grows o (Next f s) next h k = begins_after o s.output _ h (k f s)
after_grows o (Goes l f s) next h k = h
after_grows o (Returns c s) next h k = h
after_grows o (Escapes x w f s) next h k = h
after_grows o (Raises c t s) next h k = h
after_grows o (Spends s) next h k = h
after_grows o (Fails x s) next h k = h

answer_grows : (x : Flow) → out_of (answer x) ≡ out x
answer_grows (Next f s) = refl
answer_grows (Goes l f s) = refl
answer_grows (Returns c s) = refl
answer_grows (Escapes x w f s) = refl
answer_grows (Raises c t s) = refl
answer_grows (Spends s) = refl
answer_grows (Fails k s) = refl

either_grows : (o : List ℕ) (b : Bool) (x y : Flow) → Begins o (out x) → Begins o (out y) → Begins o (out (if b then x else y))
either_grows o true x y h k = h
either_grows o false x y h k = k

arrived_grows : (o l : List ℕ) (x : Flow) → Begins o (out x) → Begins o (out (arrived l x))
arrived_grows o l (Next f s) h = h
arrived_grows o l (Goes m f s) h = either_grows o (is_same m l) (Next f s) (Goes m f s) h h
arrived_grows o l (Returns c s) h = h
arrived_grows o l (Escapes x w f s) h = h
arrived_grows o l (Raises c t s) h = h
arrived_grows o l (Spends s) h = h
arrived_grows o l (Fails k s) h = h

chosen_grows : (c : Cell) (s : State) (x y : Flow) → Begins s.output (out x) → Begins s.output (out y) → Begins s.output (out (chosen c s x y))
chosen_grows (ANumber (pos n)) s x y h k = either_grows s.output (n == 0) y x k h
chosen_grows (ANumber (negsuc n)) s x y h k = h
chosen_grows (AWord w) s x y h k = begins_self s.output

abbrev LowerGrows : Lower → Type 0
LowerGrows lower = (names : Names) (c : Code) (f : Frame) (s : State) → Begins s.output (out (lower names c f s))

again_grows : (lower : Lower) → LowerGrows lower → (o : List ℕ) (names : Names) (l : List ℕ) (body : Code) (x : Flow) → Begins o (out x) → Begins o (out (again lower names l body x))
again_grows lower g o names l body (Next f s) h = begins_after o s.output _ h (g names (loop l body done) f s)
again_grows lower g o names l body (Goes m f s) h = either_grows o (is_same m l) (lower names (loop l body done) f s) (Goes m f s) (begins_after o s.output _ h (g names (loop l body done) f s)) h
again_grows lower g o names l body (Returns c s) h = h
again_grows lower g o names l body (Escapes x w f s) h = h
again_grows lower g o names l body (Raises c t s) h = h
again_grows lower g o names l body (Spends s) h = h
again_grows lower g o names l body (Fails k s) h = h

turn_grows : (n : ℕ) (s : State) (next : State → Flow) → ((s1 : State) → Begins s1.output (out (next s1))) → Begins s.output (out (take_from n s next))
turn_grows zero s next h = begins_self s.output
turn_grows (suc n) s next h = h (record s { turns = n })

iterate_grows : (lower : Lower) → LowerGrows lower → (names : Names) (l : List ℕ) (body : Code) (f : Frame) (s : State) → Begins s.output (out (iterate lower names l body f s))
iterate_grows lower g names l body f s =
    turn_grows s.turns s (λ s1. again lower names l body (lower names body f s1)) (λ s1. again_grows lower g s1.output names l body (lower names body f s1) (g names body f s1))

looped_grows : (lower : Lower) → LowerGrows lower → (names : Names) (c : Code) (f : Frame) (s : State) → Begins s.output (out (looped lower names c f s))
looped_grows lower g names done f s = begins_self s.output
looped_grows lower g names (assign x e rest) f s = begins_self s.output
looped_grows lower g names (call c rest) f s = begins_self s.output
looped_grows lower g names (return e rest) f s = begins_self s.output
looped_grows lower g names (test e a b rest) f s = begins_self s.output
looped_grows lower g names (loop l body rest) f s = iterate_grows lower g names l body f s
looped_grows lower g names (ended body l rest) f s = begins_self s.output
looped_grows lower g names (goto l rest) f s = begins_self s.output
looped_grows lower g names (catch k r body rest) f s = begins_self s.output
looped_grows lower g names (protect a b rest) f s = begins_self s.output

enter_grows : (lower : Lower) → LowerGrows lower → (o : Option Fun) (cs : List Cell) (s : State) → Begins s.output (out_of (enter lower o cs s))
enter_grows lower g None cs s = begins_self s.output
enter_grows lower g (Some f) cs s =
    subst (λ (q : List ℕ). Begins s.output q) (sym (answer_grows (looped lower (names_of f) f.code (entry f cs) s))) (looped_grows lower g (names_of f) f.code (entry f cs) s)

fixnum_grows : (w : Word) (s : State) → Begins s.output (out_of (fixnum_in w s))
fixnum_grows (Fixnum n) s = begins_self s.output
fixnum_grows False s = begins_self s.output
fixnum_grows True s = begins_self s.output
fixnum_grows Nil s = begins_self s.output
fixnum_grows Unspec s = begins_self s.output
fixnum_grows Eof s = begins_self s.output

stops_grows : (n : ℤ) (text : List ℕ) (s : State) → Begins s.output (out_of (stops n text s))
stops_grows (pos code) text s = begins_self s.output
stops_grows (negsuc n) text s = begins_self s.output

range_grows : (p : Primitive) (n : ℤ) (s : State) → Begins s.output (out_of (in_range p n s))
range_grows p n s = by (is_fixnum n)
  where
    by : (b : Bool) → Begins s.output (out_of (if b then Has (ANumber n) s else Stops (number_of Range) (name_of p) s))
    by true = begins_self s.output
    by false = begins_self s.output

does_grows : (p : Primitive) (args : List Argument) (s : State) → Begins s.output (out_of (does p args s))
does_grows Add args s = range_grows Add (number_at args 0 +ℤ number_at args 1) s
does_grows Less args s = begins_self s.output
does_grows Display args s = (printed (word_at args 0), refl)
does_grows Newline args s = (10 ∷ [], refl)

built_grows : (o : Option Primitive) (args : List Argument) (s : State) → Begins s.output (out_of (does_built o args s))
built_grows None args s = begins_self s.output
built_grows (Some p) args s = does_grows p args s

done_grows : (op : Op) (args : List Argument) (s : State) → Begins s.output (out_of (op_done op args s))
done_grows BoxLong args s = begins_self s.output
done_grows BoxBool args s = begins_self s.output
done_grows UnboxLong args s = fixnum_grows (word_at args 0) s
done_grows Truth args s = begins_self s.output
done_grows Raise args s = stops_grows (number_at args 0) (text_at args 1) s
done_grows Args args s = begins_self s.output
done_grows Status args s = begins_self s.output
done_grows (Prim_op p) args s = built_grows (built p) args s
done_grows _ args s = begins_self s.output

operate_grows : (op : Op) (args : List Argument) (s : State) → Begins s.output (out_of (operate op args s))
operate_grows op args s = by (are_wanted (wants_of op) args)
  where
    by : (b : Bool) → Begins s.output (out_of (if b then op_done op args s else Faults Tag s))
    by true = done_grows op args s
    by false = begins_self s.output

abbrev CalledGrows : (Option Fun → List Cell → State → Answer) → Type 0
CalledGrows called = (o : Option Fun) (cs : List Cell) (s : State) → Begins s.output (out_of (called o cs s))

module _ (p : List Fun) (called : Option Fun → List Cell → State → Answer) (lower : Lower) (h : CalledGrows called) (g : LowerGrows lower) where
  invoke_grows : (c : Callee) (args : List Argument) (s : State) → Begins s.output (out_of (invoke_by p called lower c args s))
  invoke_grows (callee.Fun f) args s = h (fun_named p f) (cells args) s
  invoke_grows (callee.Op op) args s = operate_grows op args s

  eval_grows : (names : Names) (e : CExpr) (f : Frame) (s : State) → Begins s.output (out_of (eval_by p called lower names e f s))
  eval_grows names (expr.Atom a) f s = begins_self s.output
  eval_grows names (expr.Call c) f s = invoke_grows c.callee (arguments names f c.args) s

  exec_grows : (names : Names) (c : Code) (f : Frame) (s : State) → Begins s.output (out (exec_by p called lower names c f s))
  exec_grows names done f s = begins_self s.output
  exec_grows names (assign x e rest) f s =
      with_grows s.output (eval_by p called lower names e f s) f (λ c s1. exec_by p called lower names rest (put (position_of x names) c f) s1) (eval_grows names e f s) (λ c s1. exec_grows names rest (put (position_of x names) c f) s1)
  exec_grows names (call c rest) f s =
      with_grows s.output (eval_by p called lower names (expr.Call c) f s) f (λ _ s1. exec_by p called lower names rest f s1) (eval_grows names (expr.Call c) f s) (λ _ s1. exec_grows names rest f s1)
  exec_grows names (return e rest) f s = with_grows s.output (eval_by p called lower names e f s) f (λ c s1. Returns c s1) (eval_grows names e f s) (λ c s1. begins_self s1.output)
  exec_grows names (test e a b rest) f s =
      with_grows s.output (eval_by p called lower names e f s) f (λ c s1. after (chosen c s1 (exec_by p called lower names a f s1) (exec_by p called lower names b f s1)) (λ f1 s2. exec_by p called lower names rest f1 s2)) (eval_grows names e f s) (λ c s1.
      after_grows s1.output (chosen c s1 (exec_by p called lower names a f s1) (exec_by p called lower names b f s1)) (λ f1 s2. exec_by p called lower names rest f1 s2)
      (chosen_grows c s1 (exec_by p called lower names a f s1) (exec_by p called lower names b f s1) (exec_grows names a f s1) (exec_grows names b f s1)) (λ f1 s2. exec_grows names rest f1 s2)
      )
  exec_grows names (loop l body rest) f s =
      after_grows s.output (iterate lower names l body f s) (λ f1 s1. exec_by p called lower names rest f1 s1) (iterate_grows lower g names l body f s) (λ f1 s1. exec_grows names rest f1 s1)
  exec_grows names (ended body l rest) f s =
      after_grows s.output (arrived l (exec_by p called lower names body f s)) (λ f1 s1. exec_by p called lower names rest f1 s1) (arrived_grows s.output l (exec_by p called lower names body f s) (exec_grows names body f s)) (λ f1 s1. exec_grows names rest f1 s1)
  exec_grows names (goto l rest) f s = begins_self s.output
  exec_grows names (catch k r body rest) f s = begins_self s.output
  exec_grows names (protect a b rest) f s = begins_self s.output

pub run_grows : (p : List Fun) (b : ℕ) → LowerGrows (run p b)
run_grows p zero names c f s = begins_self s.output
run_grows p (suc b) names c f s = exec_grows p (enter (run p b)) (run p b) (enter_grows (run p b) (run_grows p b)) (run_grows p b) names c f s

any_grows : (p : List Fun) (b : ℕ) (o : Option Fun) (cs : List Cell) (s : State) → Begins s.output (out_of (enter_any p (run p b) o cs s))
any_grows p b None cs s = begins_self s.output
any_grows p b (Some f) cs s =
    let x = exec p (run p b) (names_of f) f.code (entry f cs) s in
    subst (λ (q : List ℕ). Begins s.output q) (sym (answer_grows x)) (exec_grows p (enter (run p b)) (run p b) (enter_grows (run p b) (run_grows p b)) (run_grows p b) (names_of f) f.code (entry f cs) s)

at_grows : (level : Level) (p : List Fun) (b : ℕ) (o : Option Fun) (cs : List Cell) (s : State) → Begins s.output (out_of (enter_at level p b o cs s))
at_grows Inner p b o cs s = enter_grows (run p b) (run_grows p b) o cs s
at_grows Outer p b o cs s = any_grows p b o cs s

wrap_grows : (p : List Fun) (b : ℕ) (names : Names) (shape : Shape) (o : List ℕ) (x : Flow) → Begins o (out x) → Begins o (out (wrap p b names shape x))
wrap_grows p b names (Straight c) o x h = h
wrap_grows p b names (Looped l c) o x h = again_grows (run p (suc b)) (run_grows p (suc b)) o names l c x h

flows_grow : (level : Level) (p : List Fun) (b : ℕ) (names : Names) (left : List Code) (fr : Frame) (s : State) → Begins s.output (out (flows level p b names left fr s))
flows_grow level p b names [] fr s = begins_self s.output
flows_grow level p b names (c ∷ cs) fr s =
    after_grows s.output (exec_at level p b names c fr s) (λ fr1 s1. flows level p b names cs fr1 s1) (exec_grows p (enter_at level p b) (run p b) (at_grows level p b) (run_grows p b) names c fr s) (λ fr1 s1. flows_grow level p b names cs fr1 s1)

delivers_grows : (level : Level) (p : List Fun) (b : ℕ) (names : Names) (to : Target) (left other : List Code) (fr : Frame) (c : Cell) (s : State) → Begins s.output (out (delivers level p b names to left other fr c s))
delivers_grows level p b names (target.Local x) left other fr c s = flows_grow level p b names left (put x c fr) s
delivers_grows level p b names target.Nowhere left other fr c s = flows_grow level p b names left fr s
delivers_grows level p b names target.Caller left other fr c s = begins_self s.output
delivers_grows level p b names (target.Test at) left other fr c s =
    chosen_grows c s (flows level p b names left fr s) (flows level p b names other fr s) (flows_grow level p b names left fr s) (flows_grow level p b names other fr s)

shown_grows : (x : Flow) → (shown x).output ≡ out x
shown_grows (Next f s) = refl
shown_grows (Goes l f s) = refl
shown_grows (Returns c s) = refl
shown_grows (Escapes x w f s) = refl
shown_grows (Raises c t s) = refl
shown_grows (Spends s) = refl
shown_grows (Fails k s) = refl

callers_grow : (fs : List CFun) (place : List ℕ → ℕ) (rs : List Waiter) (below : List ℕ) (turns : ℕ) (f : CFun) (k : Flow → Observation) → Callers fs place rs below turns f k → (x : Flow) → Begins (out x) (k x).output
unfolding Callers
callers_grow fs place [] below turns f k h x =
    let e : (k x).output ≡ out x = ap (λ (w : Observation). w.output) (h.2 x) ∙ shown_grows x in
    subst (λ (q : List ℕ). Begins (out x) q) (sym e) (begins_self (out x))
callers_grow fs place (r ∷ rs) below turns f k h x =
    let w = h.0 in
    let p = meant fs in
    let names = names_in w.fun in
    let inner = with (answer x) w.frame (delivers (level_in w.fun) p w.bound names r.to w.left w.other w.frame) in
    let a = with_grows (out x) (answer x) w.frame (delivers (level_in w.fun) p w.bound names r.to w.left w.other w.frame) (subst (λ (q : List ℕ). Begins (out x) q) (sym (answer_grows x)) (begins_self (out x))) (delivers_grows (level_in w.fun) p w.bound names r.to w.left w.other w.frame) in
    let b = wrap_grows p w.bound names (shape_in w.fun) (out x) inner a in
    let d = callers_grow fs place rs w.under turns w.fun w.outer h.1 (wrap p w.bound names (shape_in w.fun) inner) in
    subst (λ (q : Observation). Begins (out x) q.output) (sym (w.whole x)) (begins_after (out x) (out (wrap p w.bound names (shape_in w.fun) inner)) _ b d)

module _ (fs : List CFun) (place : List ℕ → ℕ) (c : Config) (o : List ℕ) (w : Observation) where
  running_begins : Running fs place c o w → Begins o w.output
  running_begins m =
      let p = meant fs in
      let x = flow_of p m.bound m.fun m.left m.frame m.state in
      let a = wrap_grows p m.bound (names_in m.fun) (shape_in m.fun) m.state.output (flows (level_in m.fun) p m.bound (names_in m.fun) m.left m.frame m.state) (flows_grow (level_in m.fun) p m.bound (names_in m.fun) m.left m.frame m.state) in
      let d = callers_grow fs place m.frames m.below m.state.turns m.fun m.outer m.callers x in
      subst (λ (q : Observation). Begins o q.output) (sym m.whole) (subst (λ (q : List ℕ). Begins q (m.outer x).output) (sym m.out) (begins_after m.state.output (out x) (m.outer x).output a d))

  giving_begins : Giving fs place c o w → Begins o w.output
  giving_begins m =
      let d = callers_grow fs place m.frames m.below m.state.turns m.fun m.outer m.callers (Returns m.cell m.state) in
      subst (λ (q : Observation). Begins o q.output) (sym m.whole) (subst (λ (q : List ℕ). Begins q (m.outer (Returns m.cell m.state)).output) (sym m.out) d)

  -- what was written so far begins what will be written in all
  pub means_begins : Means fs place c o w → Begins o w.output
  means_begins m = ⊎_elim running_begins giving_begins m
