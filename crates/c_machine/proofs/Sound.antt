-- Each step is safe, and keeps what the state means.
use Rattle.std.proofs.Common.{◌≡◌, ℕ, zero, suc, ◌+◌, ◌-◌, ◌*◌, ◌<◌, ◌≤◌, min, Bool, true, false, ◌&&◌, List, [], ◌∷◌, ◌++◌, length, Option, Some, None, slice_get, take, map, replicate, refl, sym, ap, subst, ◌∙◌, arith, if◌then◌else◌, inl, inr, ⊎_elim, length-append}
use Rattle.std.specs.Prelude.{slice_set, pos, negsuc, ◌==◌, nat_eq}
use Rattle.std.proofs.Math.Seq.{take-append_seam}
use Rattle.std.proofs.lemmas.Bool.{and_parts, ltb-true}
use Rattle.std.proofs.lemmas.List.{append-nil}
use Rattle.std.proofs.lemmas.Option.{slice_get_within}
use Rattle.base_io.specs.declared.end.End.{End}
use Rattle.base_io.specs.declared.end.End.TheVariants.{Ended, Raised, Fault}
use Rattle.base_io.specs.declared.end.FaultKind.TheVariants.{Tag}
use Rattle.base_io.specs.Observation.{Observation}
use Rattle.c_tree.specs.declared.tree.CTy.{CTy}
use Rattle.c_tree.specs.declared.tree.CTy.TheVariants.{Int}
use Rattle.c_tree.specs.declared.tree.CArg.{CArg}
use Rattle.c_tree.specs.declared.tree.Callee.{Callee as Named}
use Rattle.c_tree.specs.declared.tree.Callee.TheVariants as callee
use Rattle.c_tree.specs.declared.tree.CCall.{CCall}
use Rattle.c_tree.specs.declared.tree.CExpr.{CExpr}
use Rattle.c_tree.specs.declared.tree.CExpr.TheVariants as expr
use Rattle.c_tree.specs.declared.tree.CVar.{CVar}
use Rattle.c_tree.specs.declared.function.CFun.{CFun}
use Rattle.c_tree.specs.Code.{Code, done, assign, call, return, test, loop, ended, goto, catch, protect, Fun}
use Rattle.c_tree.specs.Functions.{fun_of}
use Rattle.c_meaning.specs.State.{Cell, AWord, ANumber, State, Frame, put, Answer, Has, Leaves, Stops, Ends as Spent_answer, Faults, Flow, Next, Returns, Raises, Spends, Fails, with, answer, take_from}
use Rattle.c_meaning.specs.Operations.{print, operate}
use Rattle.c_meaning.specs.Execution.{position_of, atom, arguments, cells, again, iterate, looped, entry, invoke_by, exec, run, fun_named}
use Rattle.c_meaning.specs.Program.{shown, end_of}
use Rattle.c_tree.specs.declared.op.Wants.TheVariants.{AType}
use Rattle.c_tree.specs.Operations.{wants_of, gives_of}
use Rattle.c_meaning.specs.Plain.{Signature, signature_named, code_fits, arguments_fit, is_built_op, call_fits_signature, call_type, is_the_type, has_type, expr_fits, assigned_fits, variable_named}
use Rattle.c_machine.specs.declared.program.Target.{Target}
use Rattle.c_machine.specs.declared.program.Target.TheVariants as target
use Rattle.c_machine.specs.declared.program.Action.{Action}
use Rattle.c_machine.specs.declared.program.Action.TheVariants as action
use Rattle.c_machine.specs.declared.program.Instr.{Instr}
use Rattle.c_machine.specs.declared.program.Instr.TheVariants as instr
use Rattle.c_machine.specs.declared.program.Function.{Function}
use Rattle.c_machine.specs.declared.stepping.Frame.{Frame as Waiter}
use Rattle.c_machine.specs.Steps.{Config, look, Gave, Gives, Quits, performed, delivered, sent, called, resumed, turned, act, NeedsTarget, line_at}
use Rattle.c_machine.specs.Decoded.{line, operand_of, operand_in, action_of, call_of, expr_instr, variables_of, function_of, function_names}
use Rattle.c_machine.proofs.Means.{meant, decoded, Shape, Straight, Looped, shape_of, statements_of, last_in, first_left, statements_in, shape_in, Level, Inner, Outer, level_in, ShapeFits, Callable, Callee, Callees, names_in, AllTyped, nearest, Stepping, Leads, LeadsAll, AllFit, wrap, enter_at, eval_at, exec_at, flows, flow_of, delivers, TargetFits, config, Stands, Forks, Callers, Running, Giving, Means, left_at, steps_at, weight, steps_in, total, turn_weight, work, Kept, Sound}
use Rattle.c_machine.proofs.Leading.{statements_back, straight_back, turn_leads, block_leads, first_leads, first_fits}
use Rattle.c_machine.proofs.Flows.{IsStop, stop_with, stop_wrap, wrap_returns, after_next, assign_flow, call_flow, return_flow, test_flow}
use Rattle.c_machine.proofs.Places.{lines_in, function_there, line_there, left_there, left_less, give_there, steps_le, steps_here, within_total, some_weight, heavier, weighs_less, as_heavy, within_turn, work_falls}
use Rattle.c_machine.proofs.Typing.{slot_of, Fits, Slot, Holds, atom_reading, same_type_is, same_type_self, variable_at, set_env, put_holds}
use Rattle.c_machine.proofs.Operations.{Matches, Operated, operated, print_nothing}
use Rattle.c_machine.proofs.Filled.{args_filled, args_read, entry_holds}

-- the place of a function
abbrev pub place_in : List CFun → List ℕ → ℕ
place_in fs g = position_of g (function_names fs)

module _ (fs : List CFun) where
  abbrev P : List Fun
  P = meant fs

  callers_stop : (rs : List Waiter) (below : List ℕ) (turns : ℕ) (f : CFun) (k : Flow → Observation) → Callers fs (place_in fs) rs below turns f k → (x : Flow) → IsStop x → k x ≡ shown x
  unfolding Callers
  callers_stop [] below turns f k h x i = h.2 x
  callers_stop (r ∷ rs) below turns f k h x i =
      let w = h.0 in
      let names = names_in w.fun in
      w.whole x ∙ ap (λ y. w.outer (wrap P w.bound names (shape_in w.fun) y)) (stop_with x w.frame (delivers (level_in w.fun) P w.bound names r.to w.left w.other w.frame) i) ∙ ap w.outer (stop_wrap P w.bound names (shape_in w.fun) x i) ∙ callers_stop rs w.under turns w.fun w.outer h.1 x i

  callers_next : (rs : List Waiter) (below : List ℕ) (turns : ℕ) (f : CFun) (k : Flow → Observation) → Callers fs (place_in fs) rs below turns f k → (f : Frame) (s : State) → k (Next f s) ≡ record { output = s.output; end = Fault Tag }
  unfolding Callers
  callers_next [] below turns g k h f s = h.2 (Next f s)
  callers_next (r ∷ rs) below turns g k h f s =
      let w = h.0 in
      let names = names_in w.fun in
      w.whole (Next f s) ∙ ap w.outer (stop_wrap P w.bound names (shape_in w.fun) (Fails Tag s) tt) ∙ callers_stop rs w.under turns w.fun w.outer h.1 (Fails Tag s) tt

  -- with fewer turns the bounds are enough too
  callers_down : (rs : List Waiter) (below : List ℕ) (turns fewer : ℕ) (f : CFun) (k : Flow → Observation) → fewer ≤ turns → Callers fs (place_in fs) rs below turns f k → Callers fs (place_in fs) rs below fewer f k
  unfolding Callers
  callers_down [] below turns fewer f k le h = h
  callers_down (r ∷ rs) below turns fewer f k le h =
      let w = h.0 in
      let enough : fewer ≤ w.bound = (let e = w.enough in omega arith) in (
        record { bound = w.bound; fun = w.fun; left = w.left; other = w.other; frame = w.frame; env = w.env; under = w.under; outer = w.outer; stands = w.stands; forks = w.forks; slots = w.slots; base = w.base; enough = enough; inner = w.inner; fits = w.fits; whole = w.whole },
        callers_down rs w.under turns fewer w.fun w.outer le h.1,
      )

  -- nothing waits for the outer level
  outer_alone : (rs : List Waiter) (below : List ℕ) (turns : ℕ) (f : CFun) (k : Flow → Observation) → Callers fs (place_in fs) rs below turns f k → level_in f ≡ Outer → rs ≡ []
  unfolding Callers
  outer_alone [] below turns f k h e = refl
  outer_alone (r ∷ rs) below turns f k h e = absurd (let both : Inner ≡ Outer = sym h.0.inner ∙ e in cc)

  -- Values ----------------------------------------------------------------------------------

  deliver_needs : (k pc : ℕ) (f : CFun) (left : List Code) (fr : Frame) (below env : List ℕ) (t : CTy) (to : Target) → Stands fs (place_in fs) k pc f left fr env → TargetFits (variables_of f) f.result t to → NeedsTarget to (length below) (below ++ env)
  deliver_needs k pc f left fr below env t (target.Local x) st d =
      let lt = slice_get_within (variables_of f) x d.0 d.1 in
      omega (arith, st.holds.long, lt, length-append below env)
  deliver_needs k pc f left fr below env t target.Nowhere st d = tt
  deliver_needs k pc f left fr below env t target.Caller st d = tt
  deliver_needs k pc f left fr below env t (target.Test at) st d = tt

  -- where a function goes on, with these pieces left
  goes_on : (k pc : ℕ) (f : CFun) (left : List Code) (fr : Frame) (below env : List ℕ) (frames : List Waiter) (v : ℕ) (s : State) (b : ℕ) (outer : Flow → Observation) (w : Observation) → Stands fs (place_in fs) k pc f left fr env → s.turns ≤ b → Callers fs (place_in fs) frames below s.turns f outer → w ≡ outer (flow_of P b f left fr s) → Means fs (place_in fs) (config k pc below env s.turns frames v) s.output w
  goes_on k pc f left fr below env frames v s b outer w st le cs e = inl (record {
    fn = k;
    pc = pc;
    below = below;
    env = env;
    frames = frames;
    value = v;
    state = s;
    bound = b;
    fun = f;
    left = left;
    frame = fr;
    outer = outer;
    is = refl;
    out = refl;
    stands = st;
    enough = le;
    callers = cs;
    whole = e;
  })

  module _ (k pc : ℕ) (f : CFun) (left other : List Code) (fr : Frame) (below env : List ℕ) (frames : List Waiter) (s : State) (b : ℕ) (outer : Flow → Observation) (w : Observation) (st : Stands fs (place_in fs) k pc f left fr env) (le : s.turns ≤ b) (cs : Callers fs (place_in fs) frames below s.turns f outer) where
    abbrev Delivers : Target → Cell → Type 0
    Delivers to c = w ≡ outer (wrap P b (names_in f) (shape_in f) (delivers (level_in f) P b (names_in f) to left other fr c s))

    forks_by : (at v : ℕ) (test : Bool) → Stands fs (place_in fs) k at f other fr env → w ≡ outer (wrap P b (names_in f) (shape_in f) (if test then flows (level_in f) P b (names_in f) other fr s else flows (level_in f) P b (names_in f) left fr s)) → Means fs (place_in fs) (config k (if test then at else pc) below env s.turns frames v) s.output w
    forks_by at v true fk e = goes_on k at f other fr below env frames v s b outer w fk le cs e
    forks_by at v false fk e = goes_on k pc f left fr below env frames v s b outer w st le cs e

    fork_means : (at : ℕ) (c : Cell) (v : ℕ) → Slot Int c v → Stands fs (place_in fs) k at f other fr env → Delivers (target.Test at) c → Means fs (place_in fs) (config k (if nat_eq v 0 then at else pc) below env s.turns frames v) s.output w
    fork_means at (AWord x) v sl fk e = absurd sl.fits
    fork_means at (ANumber (negsuc n)) v sl fk e = absurd (let no = sl.fits in cc)
    fork_means at (ANumber (pos n)) v sl fk e = subst (λ u. Means fs (place_in fs) (config k (if nat_eq u 0 then at else pc) below env s.turns frames u) s.output w) (sym sl.is) (forks_by at n (n == 0) fk e)

    deliver_means : (t : CTy) (to : Target) (c : Cell) (v old : ℕ) → Forks fs (place_in fs) to k f other fr env → TargetFits (variables_of f) f.result t to → Slot t c v → Delivers to c → Means fs (place_in fs) (delivered to v (config k pc below env s.turns frames old)) s.output w
    deliver_means t (target.Local x) c v old fk d sl e =
        let here : Stands fs (place_in fs) k pc f left (put x c fr) (slice_set env x v) = record {
          there = st.there;
          sigs = st.sigs;
          callees = st.callees;
          fits = st.fits;
          leads = st.leads;
          holds = put_holds (variables_of f) fr env x d.0 c v d.1 (record { fits = subst (λ u. Fits u c) d.2 sl.fits; is = sl.is }) st.holds;
        } in
        subst (λ l. Means fs (place_in fs) (record { fun = k; pc = pc; base = length below; turns = s.turns; slots = l; frames = frames; value = v }) s.output w) (sym (set_env below env x v))
        (goes_on k pc f left (put x c fr) below (slice_set env x v) frames v s b outer w here le cs e)
    deliver_means t target.Nowhere c v old fk d sl e = goes_on k pc f left fr below env frames v s b outer w st le cs e
    deliver_means t target.Caller c v old fk d sl e = inr (record {
      fn = k;
      below = below;
      env = env;
      frames = frames;
      state = s;
      fun = f;
      cell = c;
      outer = outer;
      is = ap (config k 0 below env s.turns frames) sl.is;
      out = refl;
      there = st.there;
      fits = subst (λ u. Fits u c) d sl.fits;
      callers = cs;
      whole = e ∙ ap outer (wrap_returns P b (names_in f) (shape_in f) c s);
    })
    deliver_means t (target.Test at) c v old fk d sl e = fork_means at c v (subst (λ u. Slot u c v) d sl) fk e

  -- the work that is left at a place, which is no nearer than another
  steps_beyond : (k near pc : ℕ) → near ≤ pc → steps_at (decoded fs) k pc ≤ 2 * left_at (decoded fs) k near + 1
  steps_beyond k near pc le =
      let a = steps_le (line_at (decoded fs) k pc) (left_at (decoded fs) k pc) in
      let b = left_less (decoded fs) k near pc le in
      omega (arith, a, b)

  either_beyond : (test : Bool) (at next : ℕ) → min at next ≤ (if test then at else next)
  either_beyond true at next = omega arith
  either_beyond false at next = omega arith

  deliver_steps : (k : ℕ) (f : CFun) (to : Target) (v : ℕ) (c : Config) → c.fun ≡ k → slice_get fs k ≡ Some f → steps_at (decoded fs) (delivered to v c).fun (delivered to v c).pc ≤ 2 * left_at (decoded fs) c.fun (nearest to c.pc) + 1
  deliver_steps k f (target.Local x) v c e there = steps_beyond c.fun c.pc c.pc (omega arith)
  deliver_steps k f target.Nowhere v c e there = steps_beyond c.fun c.pc c.pc (omega arith)
  deliver_steps k f target.Caller v c e there =
      let g = steps_here (decoded fs) c.fun 0 (Some (line instr.Give 1)) (ap (λ n. line_at (decoded fs) n 0) e ∙ give_there fs k f there) in
      omega (arith, g)
  deliver_steps k f (target.Test at) v c e there = steps_beyond c.fun (min at c.pc) (if nat_eq v 0 then at else c.pc) (either_beyond (nat_eq v 0) at c.pc)

  deliver_turns : (to : Target) (v : ℕ) (c : Config) → (delivered to v c).turns ≡ c.turns
  deliver_turns (target.Local x) v c = refl
  deliver_turns target.Nowhere v c = refl
  deliver_turns target.Caller v c = refl
  deliver_turns (target.Test at) v c = refl

  deliver_frames : (to : Target) (v : ℕ) (c : Config) → (delivered to v c).frames ≡ c.frames
  deliver_frames (target.Local x) v c = refl
  deliver_frames target.Nowhere v c = refl
  deliver_frames target.Caller v c = refl
  deliver_frames (target.Test at) v c = refl

  -- Actions ---------------------------------------------------------------------------------

  -- what a statement finds: its line and those that come after it, its function and its callers
  record Here (k pc next : ℕ) (f : CFun) (left other : List Code) (fr : Frame) (below env : List ℕ) (frames : List Waiter) (s : State) (b : ℕ) (outer : Flow → Observation) (to : Target) (i : Instr) : Type 0 where
    there : slice_get fs k ≡ Some f
    found : line_at (decoded fs) k pc ≡ Some (line i next)
    within : pc < length (lines_in fs f)
    ahead : pc < nearest to next
    behind : Stands fs (place_in fs) k next f left fr env
    forks : Forks fs (place_in fs) to k f other fr env
    enough : s.turns ≤ b
    callers : Callers fs (place_in fs) frames below s.turns f outer

  -- the work that is left before an instruction that is no turn, and ahead of it
  steps_fall : (k pc near : ℕ) (f : CFun) (n m : ℕ) → slice_get fs k ≡ Some f → pc < length (lines_in fs f) → pc < near → n ≤ 2 * left_at (decoded fs) k near + 1 → m ≡ 2 * left_at (decoded fs) k pc → n < m
  steps_fall k pc near f n m there lt ahead le e =
      let a = left_there fs k pc f there in
      let b = left_there fs k near f there in
      omega (arith, a, b, lt, ahead, le, e)

  module _ (k pc next : ℕ) (f : CFun) (left other : List Code) (fr : Frame) (below env : List ℕ) (frames : List Waiter) (s : State) (b : ℕ) (outer : Flow → Observation) (to : Target) (t : CTy) (old : ℕ) (w : Observation) (d : TargetFits (variables_of f) f.result t to) where
    abbrev At : Instr → Type 0
    At i = Here k pc next f left other fr below env frames s b outer to i

    -- an answer is delivered
    abbrev Is : Answer → Type 0
    Is a = w ≡ outer (wrap P b (names_in f) (shape_in f) (with a fr (delivers (level_in f) P b (names_in f) to left other fr)))

    does_kept : (act : Action) → At (instr.Does to act) → (g : Gave) (a : Answer) → Matches t s g a → Is a → Kept fs (place_in fs) (config k pc below env s.turns frames old) s.output w (sent to g (config k next below env s.turns frames old))
    does_kept act h (Gives v bytes) (Has c s1) m e =
        let c0 = config k pc below env s.turns frames old in
        let c1 = config k next below env s.turns frames old in
        let e1 : w ≡ outer (wrap P b (names_in f) (shape_in f) (delivers (level_in f) P b (names_in f) to left other fr c (print bytes s))) = e ∙ ap (λ (x : State). outer (wrap P b (names_in f) (shape_in f) (delivers (level_in f) P b (names_in f) to left other fr c x))) m.1 in
        let means = deliver_means k next f left other fr below env frames (print bytes s) b outer w h.behind h.enough h.callers t to c v old h.forks d m.0 e1 in
        let le = deliver_steps k f to v c1 refl h.there in
        let now = steps_here (decoded fs) k pc (Some (line (instr.Does to act) next)) h.found in
        let funs = decoded fs in
        let d = delivered to v c1 in
        let lt = steps_fall k pc (nearest to next) f (steps_at funs d.fun d.pc) (steps_at funs k pc) h.there h.within h.ahead le now in
        let less = weighs_less funs frames (steps_at funs d.fun d.pc) (steps_at funs k pc) lt in
        (means, work_falls funs c0 d (deliver_turns to v c1) (subst (λ (rs : List Waiter). weight funs rs * steps_at funs d.fun d.pc + steps_in funs rs < weight funs frames * steps_at funs k pc + steps_in funs frames) (sym (deliver_frames to v c1)) less))
    does_kept act h (Gives v bytes) (Leaves x y s1) m e = absurd m
    does_kept act h (Gives v bytes) (Stops code text s1) m e = absurd m
    does_kept act h (Gives v bytes) (Spent_answer s1) m e = absurd m
    does_kept act h (Gives v bytes) (Faults x s1) m e = absurd m
    does_kept act h (Quits x) (Has c s1) m e = absurd m
    does_kept act h (Quits x) (Leaves y z s1) m e = absurd m
    does_kept act h (Quits x) (Stops code text s1) m e =
        e ∙ ap outer (stop_wrap P b (names_in f) (shape_in f) (Raises code text s1) tt) ∙ callers_stop frames below s.turns f outer h.callers (Raises code text s1) tt
        ∙ ap (λ (y : State). record { output = y.output; end = Raised code text }) m.1 ∙ ap (λ (y : End). record { output = s.output; end = y }) (sym m.0)
    does_kept act h (Quits x) (Spent_answer s1) m e = absurd m
    does_kept act h (Quits x) (Faults y s1) m e = absurd m

    abbrev SoundAt : Instr → Type 0
    SoundAt i = Sound fs (place_in fs) (config k pc below env s.turns frames old) s.output w (Some (line i next))

    does_sound : (act : Action) → At (instr.Does to act) → (a : Answer) → Operated t s (length below) (below ++ env) act a → Is a → SoundAt (instr.Does to act)
    does_sound act h a o e =
        ((deliver_needs k next f left fr below env t to h.behind d, o.needs), does_kept act h (performed act (length below) (below ++ env)) a o.same e)

  -- Calls -----------------------------------------------------------------------------------

  -- a loop begins with its turn, as at the end of its block
  loop_begins : (b : ℕ) (g : CFun) (l : List ℕ) (block : Code) (fr : Frame) (s : State) → statements_in g ≡ loop l block done → looped (run P b) (names_in g) (statements_in g) fr s ≡ flow_of P b g [] fr s
  loop_begins b g l block fr s e =
      subst (λ (c : Code). looped (run P b) (names_in g) c fr s ≡ wrap P b (names_in g) (shape_of c) (Next fr s)) (sym e) (sym (after_next (iterate (run P b) (names_in g) l block fr s)))

  -- a function's statements are what it has left where it begins
  pub begins_with : (b : ℕ) (g : CFun) (fr : Frame) (s : State) (shape : Shape) → shape_in g ≡ shape → exec_at (level_in g) P b (names_in g) (statements_in g) fr s ≡ flow_of P b g (first_left shape) fr s
  begins_with b g fr s (Straight c) e =
      let flow : exec_at (level_in g) P b (names_in g) c fr s ≡ flows (level_in g) P b (names_in g) (c ∷ []) fr s = sym (after_next (exec_at (level_in g) P b (names_in g) c fr s)) in
      ap (λ (d : Code). exec_at (level_in g) P b (names_in g) d fr s) (sym (straight_back (statements_in g) c e)) ∙ flow
      ∙ ap (λ (x : Shape). wrap P b (names_in g) x (flows (level_in g) P b (names_in g) (c ∷ []) fr s)) (sym e)
  begins_with b g fr s (Looped l c) e =
      ap (λ (d : Code). exec_at (level_in g) P b (names_in g) d fr s) (statements_back (statements_in g) l c e) ∙ ap (λ (x : Shape). wrap P b (names_in g) x (Next fr s)) (sym e)

  call_begins : (b : ℕ) (g : CFun) (cs : List Cell) (s : State) (level : Level) (shape : Shape) → level_in g ≡ Inner → shape_in g ≡ shape → Callable level shape → enter_at level P b (Some (fun_of g)) cs s ≡ answer (flow_of P b g (first_left shape) (entry (fun_of g) cs) s)
  call_begins b g cs s Outer shape inner e h =
      ap (λ (l : Level). answer (exec_at l P b (names_in g) (statements_in g) (entry (fun_of g) cs) s)) (sym inner) ∙ ap answer (begins_with b g (entry (fun_of g) cs) s shape e)
  call_begins b g cs s Inner (Straight c) inner e h = absurd h
  call_begins b g cs s Inner (Looped l c) inner e h = ap answer (loop_begins b g l c (entry (fun_of g) cs) s (statements_back (statements_in g) l c e))

  turn_there : (k : ℕ) (g : CFun) (l : List ℕ) (block : Code) → slice_get fs k ≡ Some g → statements_in g ≡ loop l block done → steps_at (decoded fs) k 1 ≡ 0
  unfolding LeadsAll
  turn_there k g l block there e =
      let lead = turn_leads (names_in g) (function_names fs) l block (statements_in g) e in
      let turn : last_in (shape_in g) ≡ instr.Turn = ap (λ c. last_in (shape_of c)) e in
      steps_here (decoded fs) k 1 (Some (line instr.Turn lead.0)) (line_there fs k 1 g there ∙ lead.1 ∙ ap (λ i. Some (line i lead.0)) turn)

  module _ (typed : AllTyped fs (place_in fs)) (k pc next : ℕ) (f : CFun) (left other : List Code) (fr : Frame) (below env : List ℕ) (frames : List Waiter) (s : State) (b : ℕ) (outer : Flow → Observation) (to : Target) (old : ℕ) (w : Observation) where
    abbrev FrameHere : Waiter
    FrameHere = record { to = to; fun = k; next = next; base = length below }

    -- what becomes of the end of the callee
    abbrev after_call : Flow → Observation
    after_call x = outer (wrap P b (names_in f) (shape_in f) (with (answer x) fr (delivers (level_in f) P b (names_in f) to left other fr)))

    -- before it takes a turn, a callee does fewer steps than one step of its caller weighs
    callee_light : (g : ℕ) (callee : CFun) (level : Level) (shape : Shape) → slice_get fs g ≡ Some callee → level_in f ≡ level → shape_in callee ≡ shape → Callable level shape → Callers fs (place_in fs) frames below s.turns f outer → steps_at (decoded fs) g 1 < weight (decoded fs) frames
    unfolding weight
    callee_light g callee Outer shape there el es h cs =
        let funs = decoded fs in
        let le = steps_le (line_at funs g 1) (left_at funs g 1) in
        let left = left_there fs g 1 callee there in
        let all = within_total funs g (function_of (function_names fs) callee) (function_there fs g callee there) in
        let lt : steps_at funs g 1 < 2 * total funs + 2 = omega (arith, le, left, all) in
        subst (λ (rs : List Waiter). steps_at funs g 1 < weight funs rs) (sym (outer_alone frames below s.turns f outer cs el)) lt
    callee_light g callee Inner (Straight c) there el es h cs = absurd h
    callee_light g callee Inner (Looped l c) there el es h cs =
        let none = turn_there g callee l c there (statements_back (statements_in callee) l c es) in
        omega (arith, none, some_weight (decoded fs) frames)

    call_less : (a b c d : ℕ) → b + a < c → 1 * a + (b + d) < c + d
    call_less a b c d lt = omega arith

    call_falls : (g : ℕ) (args : List CArg) (callee : CFun) (here : List ℕ) → Here k pc next f left other fr below env frames s b outer to (instr.Call to g (map (operand_in (names_in f)) args)) → slice_get fs g ≡ Some callee → Callable (level_in f) (shape_in callee) → work (decoded fs) (config g 1 (below ++ env) here s.turns (FrameHere ∷ frames) old) < work (decoded fs) (config k pc below env s.turns frames old)
    unfolding weight steps_in
    call_falls g args callee here h there fits =
        let funs = decoded fs in
        let light = callee_light g callee (level_in f) (shape_in callee) there refl refl fits h.callers in
        let now = steps_here funs k pc (Some (line (instr.Call to g (map (operand_in (names_in f)) args)) next)) h.found in
        let ahead = 2 * left_at funs k (nearest to next) + 1 in
        let fall = steps_fall k pc (nearest to next) f ahead (steps_at funs k pc) h.there h.within h.ahead (omega arith) now in
        let lt = heavier (weight funs frames) ahead (steps_at funs k pc) (steps_at funs g 1) light fall in
        let less = call_less (steps_at funs g 1) (weight funs frames * ahead) (weight funs frames * steps_at funs k pc) (steps_in funs frames) lt in
        work_falls funs (config k pc below env s.turns frames old) (config g 1 (below ++ env) here s.turns (FrameHere ∷ frames) old) refl less

    call_sound : (g : List ℕ) (args : List CArg) (sig : Signature) → Here k pc next f left other fr below env frames s b outer to (instr.Call to (place_in fs g) (map (operand_in (names_in f)) args)) → Callee fs (level_in f) (place_in fs g) g sig → arguments_fit (variables_of f) (map AType sig.params) args ≡ true → TargetFits (variables_of f) f.result sig.result to → w ≡ outer (wrap P b (names_in f) (shape_in f) (with (enter_at (level_in f) P b (fun_named P g) (cells (arguments (names_in f) fr args)) s) fr (delivers (level_in f) P b (names_in f) to left other fr))) → Sound fs (place_in fs) (config k pc below env s.turns frames old) s.output w (Some (line (instr.Call to (place_in fs g) (map (operand_in (names_in f)) args)) next))
    unfolding Callers
    call_sound g args sig h d fit df e =
        let callee = d.fun in
        let vars = variables_of f in
        let at = place_in fs g in
        let operands = map (operand_in (names_in f)) args in
        let fit2 : arguments_fit vars (map AType (map (λ v. v.ty) callee.params)) args ≡ true = subst (λ (ts : List CTy). arguments_fit vars (map AType ts) args ≡ true) (sym d.params) fit in
        let cs = cells (arguments (names_in f) fr args) in
        let values = map (look (length below) (below ++ env)) operands in
        let here = values ++ replicate (length callee.locals) 0 in
        let reads = args_read vars fr below env h.behind.holds callee.params args fit2 in
        let filled = args_filled vars fr below env h.behind.holds callee.params args fit2 in
        let fn = function_of (function_names fs) callee in
        let there = function_there fs at callee d.there in
        let inside = slice_get_within (decoded fs) at fn there in
        let t = typed at callee d.there in
        let c0 = config k pc below env s.turns frames old in
        let c1 = config at 1 (below ++ env) here s.turns (FrameHere ∷ frames) old in
        let first = first_left (shape_in callee) in
        let begun : enter_at (level_in f) P b (fun_named P g) cs s ≡ answer (flow_of P b callee first (entry (fun_of callee) cs) s) =
        ap (λ o. enter_at (level_in f) P b o cs s) d.found ∙ call_begins b callee cs s (level_in f) (shape_in callee) d.inner refl d.shape in
        let fits2 : TargetFits vars f.result callee.result to = subst (λ (u : CTy). TargetFits vars f.result u to) (sym d.result) df in
        let stands : Stands fs (place_in fs) at 1 callee first (entry (fun_of callee) cs) here = record {
          there = d.there;
          sigs = t.sigs;
          callees = t.callees;
          fits = first_fits t.sigs (variables_of callee) callee.result (shape_in callee) t.fits;
          leads = first_leads (names_in callee) (function_names fs) t.sigs (variables_of callee) callee.result (statements_in callee) (shape_in callee) refl t.fits;
          holds = entry_holds callee cs values filled;
        } in
        let callers : Callers fs (place_in fs) (FrameHere ∷ frames) (below ++ env) s.turns callee after_call = (record { bound = b; fun = f; left = left; other = other; frame = fr; env = env; under = below; outer = outer; stands = h.behind; forks = h.forks; slots = refl; base = refl; enough = h.enough; inner = d.inner; fits = fits2; whole = λ x. refl }, h.callers) in
        let means = goes_on at 1 callee first (entry (fun_of callee) cs) (below ++ env) here (FrameHere ∷ frames) old s b after_call w stands h.enough callers (e ∙ ap (λ a. outer (wrap P b (names_in f) (shape_in f) (with a fr (delivers (level_in f) P b (names_in f) to left other fr)))) begun) in (
          (inside, reads),
          subst (λ (m : Option Function). Kept fs (place_in fs) c0 s.output w (called m to at operands (config k next below env s.turns frames old))) (sym there)
              (subst (λ (o : List ℕ). Means fs (place_in fs) c1 o w) (sym (append-nil s.output)) means, call_falls at args callee here h d.there d.shape),
        )

  -- Statements ------------------------------------------------------------------------------

  typed_if : (t u : CTy) (b : Bool) → is_the_type t (if b then Some u else None) ≡ true → (b ≡ true) × (t ≡ u)
  typed_if t u true h = (refl, same_type_is t u h)
  typed_if t u false h = absurd (cc)

  module _ (typed : AllTyped fs (place_in fs)) (k pc next : ℕ) (f : CFun) (left other : List Code) (fr : Frame) (below env : List ℕ) (frames : List Waiter) (s : State) (b : ℕ) (outer : Flow → Observation) (to : Target) (t : CTy) (old : ℕ) (w : Observation) (df : TargetFits (variables_of f) f.result t to) where
    abbrev Begun : Instr → Type 0
    Begun i = Here k pc next f left other fr below env frames s b outer to i

    abbrev Gets : Answer → Type 0
    Gets a = w ≡ outer (wrap P b (names_in f) (shape_in f) (with a fr (delivers (level_in f) P b (names_in f) to left other fr)))

    abbrev Safe : Instr → Type 0
    Safe i = Sound fs (place_in fs) (config k pc below env s.turns frames old) s.output w (Some (line i next))

    fun_sound : (sigs : List Signature) (g : List ℕ) (args : List CArg) (o : Option Signature) → Callees fs (level_in f) (place_in fs) sigs → signature_named sigs g ≡ o → is_the_type t (call_fits_signature (variables_of f) o args) ≡ true → Begun (call_of (names_in f) (function_names fs) to (callee.Fun g) args) → Gets (invoke_by P (enter_at (level_in f) P b) (run P b) (callee.Fun g) (arguments (names_in f) fr args) s) → Safe (call_of (names_in f) (function_names fs) to (callee.Fun g) args)
    fun_sound sigs g args None callees es fit h e = absurd (cc)
    fun_sound sigs g args (Some sig) callees es fit h e =
        let p = typed_if t sig.result (arguments_fit (variables_of f) (map AType sig.params) args) fit in
        call_sound typed k pc next f left other fr below env frames s b outer to old w g args sig h (callees g sig es) p.0 (subst (λ (u : CTy). TargetFits (variables_of f) f.result u to) p.1 df) e

    target_sound : (sigs : List Signature) (cal : Named) (args : List CArg) → Callees fs (level_in f) (place_in fs) sigs → is_the_type t (call_type sigs (variables_of f) cal args) ≡ true → Begun (call_of (names_in f) (function_names fs) to cal args) → Gets (invoke_by P (enter_at (level_in f) P b) (run P b) cal (arguments (names_in f) fr args) s) → Safe (call_of (names_in f) (function_names fs) to cal args)
    target_sound sigs (callee.Fun g) args callees fit h e = fun_sound sigs g args (signature_named sigs g) callees refl fit h e
    target_sound sigs (callee.Op op) args callees fit h e =
        let p = typed_if t (gives_of op) (is_built_op op && arguments_fit (variables_of f) (wants_of op) args) fit in
        let q = and_parts (is_built_op op) (arguments_fit (variables_of f) (wants_of op) args) p.0 in
        let o = operated (variables_of f) fr below env s h.behind.holds op args q.0 q.1 in
        does_sound k pc next f left other fr below env frames s b outer to (gives_of op) old w (subst (λ (u : CTy). TargetFits (variables_of f) f.result u to) p.1 df) (action_of (names_in f) op args) h (operate op (arguments (names_in f) fr args) s) o e

    expr_sound : (sigs : List Signature) (x : CExpr) → Callees fs (level_in f) (place_in fs) sigs → expr_fits sigs (variables_of f) x t ≡ true → Begun (expr_instr (names_in f) (function_names fs) to x) → Gets (eval_at (level_in f) P b (names_in f) x fr s) → Safe (expr_instr (names_in f) (function_names fs) to x)
    expr_sound sigs (expr.Atom a) callees fit h e =
        let r = atom_reading (variables_of f) fr below env t a fit h.behind.holds in
        does_sound k pc next f left other fr below env frames s b outer to t old w df (action.Copy (operand_of (names_in f) a)) h (Has (atom (names_in f) fr a) s) (record { needs = r.reads; same = (r.slot, print_nothing s) }) e
    expr_sound sigs (expr.Call c) callees fit h e = target_sound sigs c.callee c.args callees fit h e

  -- Turns and ends --------------------------------------------------------------------------

  turn_less : (t m a r z : ℕ) → a < m → z ≡ 0 → t * m + (a + r) < suc t * m + (z + r)
  turn_less t m a r z lt e = grind arith

  none_weighs : (w n : ℕ) → n ≡ 0 → w * n ≡ 0
  none_weighs w n e = grind arith

  turn_work : (c d : Config) (t k : ℕ) (f : CFun) → slice_get fs k ≡ Some f → 0 < length (lines_in fs f) → c.turns ≡ suc t → d.turns ≡ t → d.fun ≡ k → d.pc ≡ 2 → d.frames ≡ c.frames → steps_at (decoded fs) c.fun c.pc ≡ 0 → work (decoded fs) d < work (decoded fs) c
  unfolding work
  turn_work c d t k f there some et eu ek ep ef none =
      let funs = decoded fs in
      let m = turn_weight funs in
      let le = steps_le (line_at funs d.fun d.pc) (left_at funs d.fun d.pc) in
      let left : left_at funs d.fun d.pc ≡ length (lines_in fs f) - 2 = ap (λ n. left_at funs n d.pc) ek ∙ ap (left_at funs k) ep ∙ left_there fs k 2 f there in
      let all = within_total funs k (function_of (function_names fs) f) (function_there fs k f there) in
      let lt : steps_at funs d.fun d.pc < 2 * total funs + 1 = omega (arith, le, left, all, some) in
      let now = weight funs c.frames * steps_at funs d.fun d.pc in
      let was = weight funs c.frames * steps_at funs c.fun c.pc in
      let less = turn_less t m now (steps_in funs c.frames) was (within_turn funs c.frames (steps_at funs d.fun d.pc) lt) (none_weighs (weight funs c.frames) (steps_at funs c.fun c.pc) none) in
      let ed : d.turns * m + (weight funs d.frames * steps_at funs d.fun d.pc + steps_in funs d.frames) ≡ t * m + (now + steps_in funs c.frames) =
      ap (λ n. n * m + (weight funs d.frames * steps_at funs d.fun d.pc + steps_in funs d.frames)) eu ∙ ap (λ rs. t * m + (weight funs rs * steps_at funs d.fun d.pc + steps_in funs rs)) ef in
      let ec : suc t * m + (was + steps_in funs c.frames) ≡ c.turns * m + (was + steps_in funs c.frames) = ap (λ n. n * m + (was + steps_in funs c.frames)) (sym et) in
      subst (λ x. x < c.turns * m + (was + steps_in funs c.frames)) (sym ed) (subst (λ x. t * m + (now + steps_in funs c.frames) < x) ec less)

  loop_inner : (level : Level) (l : List ℕ) (c : Code) → ShapeFits level (Looped l c) → level ≡ Inner
  loop_inner Inner l c h = refl
  loop_inner Outer l c h = absurd h

  module _ (typed : AllTyped fs (place_in fs)) (k pc next : ℕ) (f : CFun) (fr : Frame) (below env : List ℕ) (frames : List Waiter) (s : State) (outer : Flow → Observation) (old : ℕ) (w : Observation) (cs : Callers fs (place_in fs) frames below s.turns f outer) (some : 0 < length (lines_in fs f)) where
    turn_kept : (l : List ℕ) (block : Code) → slice_get fs k ≡ Some f → shape_in f ≡ Looped l block → Holds (variables_of f) fr env → steps_at (decoded fs) k pc ≡ 0 → (n b : ℕ) → s.turns ≡ n → n ≤ b → w ≡ outer (take_from n s (λ s1. again (run P b) (names_in f) l block (run P b (names_in f) block fr s1))) → Kept fs (place_in fs) (config k pc below env s.turns frames old) s.output w (turned n (config k next below env s.turns frames old))
    turn_kept l block there is hs none zero b en le e = e ∙ callers_stop frames below s.turns f outer cs (Spends s) tt
    turn_kept l block there is hs none (suc t) zero en le e = absurd (omega arith)
    turn_kept l block there is hs none (suc t) (suc b) en le e =
        let s1 : State = record s { turns = t } in
        let ty = typed k f there in
        let d = config k 2 below env t frames old in
        let fits : code_fits ty.sigs (variables_of f) f.result block ≡ true = subst (λ (x : Shape). code_fits ty.sigs (variables_of f) f.result (statements_of x) ≡ true) is ty.fits in
        let fewer : t ≤ s.turns = omega (arith, en) in
        let stands : Stands fs (place_in fs) k 2 f (block ∷ []) fr env = record {
          there = there;
          sigs = ty.sigs;
          callees = ty.callees;
          fits = (fits, tt);
          leads = block_leads (names_in f) (function_names fs) l block (statements_in f) (statements_back (statements_in f) l block is);
          holds = hs;
        } in
        let inner : level_in f ≡ Inner = loop_inner (level_in f) l block (subst (λ (x : Shape). ShapeFits (level_in f) x) is ty.shape) in
        let flow : exec P (run P b) (names_in f) block fr s1 ≡ flows (level_in f) P b (names_in f) (block ∷ []) fr s1 = sym (after_next (exec P (run P b) (names_in f) block fr s1)) ∙ ap (λ (x : Level). flows x P b (names_in f) (block ∷ []) fr s1) (sym inner) in
        let whole : w ≡ outer (flow_of P b f (block ∷ []) fr s1) = e ∙ ap (λ x. outer (again (run P (suc b)) (names_in f) l block x)) flow ∙ ap (λ (x : Shape). outer (wrap P b (names_in f) x (flows (level_in f) P b (names_in f) (block ∷ []) fr s1))) (sym is) in
        let means = goes_on k 2 f (block ∷ []) fr below env frames old s1 b outer w stands (omega arith) (callers_down frames below s.turns t f outer fewer cs) whole in
        (subst (λ (o : List ℕ). Means fs (place_in fs) d o w) (sym (append-nil s.output)) means, turn_work (config k pc below env s.turns frames old) d t k f there some en refl refl refl refl none)

    -- at the end of the statements
    end_sound : (b : ℕ) → Stands fs (place_in fs) k pc f [] fr env → s.turns ≤ b → line_at (decoded fs) k pc ≡ Some (line (last_in (shape_in f)) next) → (shape : Shape) → shape_in f ≡ shape → w ≡ outer (wrap P b (names_in f) shape (Next fr s)) → Sound fs (place_in fs) (config k pc below env s.turns frames old) s.output w (Some (line (last_in shape) next))
    end_sound b st le here (Straight c) is e = (tt, e ∙ callers_next frames below s.turns f outer cs fr s)
    end_sound b st le here (Looped l block) is e =
        let none : steps_at (decoded fs) k pc ≡ 0 = steps_here (decoded fs) k pc (Some (line instr.Turn next)) (here ∙ ap (λ (x : Shape). Some (line (last_in x) next)) is) in
        let turn : w ≡ outer (iterate (run P b) (names_in f) l block fr s) = e ∙ ap outer (after_next (iterate (run P b) (names_in f) l block fr s)) in
        (tt, turn_kept l block st.there is st.holds none s.turns b refl le turn)

  main_end : (c : Cell) → Fits Int c → (end_of c ≡ Ended (slot_of c)) × (slot_of c < 256)
  main_end (AWord w) h = absurd h
  main_end (ANumber (pos n)) h = (refl, ltb-true n 256 h)
  main_end (ANumber (negsuc n)) h = absurd (cc)

  give_less : (a b c d : ℕ) → a ≤ b → d ≡ 1 → a + c < 1 * d + (b + c)
  give_less a b c d le e = omega arith

  giving_sound : (k : ℕ) (f : CFun) (below env : List ℕ) (frames : List Waiter) (s : State) (c : Cell) (outer : Flow → Observation) (w : Observation) → slice_get fs k ≡ Some f → Fits f.result c → Callers fs (place_in fs) frames below s.turns f outer → w ≡ outer (Returns c s) → Sound fs (place_in fs) (config k 0 below env s.turns frames (slot_of c)) s.output w (Some (line instr.Give 1))
  unfolding Callers weight steps_in
  giving_sound k f below env [] s c outer w there fits cs e =
      let m = main_end c (subst (λ (t : CTy). Fits t c) cs.1 fits) in
      (m.1, e ∙ cs.2 (Returns c s) ∙ ap (λ (x : End). record { output = s.output; end = x }) m.0)
  giving_sound k f below env (r ∷ rs) s c outer w there fits cs e =
      let wt = cs.0 in
      let v = slot_of c in
      let funs = decoded fs in
      let c0 = config k 0 below env s.turns (r ∷ rs) v in
      let c1 = config k 1 below env s.turns (r ∷ rs) v in
      let caller = config r.fun r.next wt.under wt.env s.turns rs v in
      let kept_slots : take (length below) (below ++ env) ≡ wt.under ++ wt.env = take-append_seam below env ∙ wt.slots in
      let back : resumed r rs c1 ≡ caller =
      ap (λ l. record { fun = r.fun; pc = r.next; base = r.base; turns = s.turns; slots = l; frames = rs; value = v }) kept_slots
      ∙ ap (λ n. record { fun = r.fun; pc = r.next; base = n; turns = s.turns; slots = wt.under ++ wt.env; frames = rs; value = v }) wt.base in
      let needs : NeedsTarget r.to r.base (take (length below) (below ++ env)) =
      subst (λ n. NeedsTarget r.to n (take (length below) (below ++ env))) (sym wt.base)
      (subst (λ l. NeedsTarget r.to (length wt.under) l) (sym kept_slots) (deliver_needs r.fun r.next wt.fun wt.left wt.frame wt.under wt.env f.result r.to wt.stands wt.fits)) in
      let means = deliver_means r.fun r.next wt.fun wt.left wt.other wt.frame wt.under wt.env rs s wt.bound wt.outer w wt.stands wt.enough cs.1 f.result r.to c v v wt.forks wt.fits (record { fits = fits; is = refl }) (e ∙ wt.whole (Returns c s)) in
      let d = delivered r.to v caller in
      let le = deliver_steps r.fun wt.fun r.to v caller refl wt.stands.there in
      let one : steps_at funs k 0 ≡ 1 = steps_here funs k 0 (Some (line instr.Give 1)) (give_there fs k f there) in
      let ahead = 2 * left_at funs r.fun (nearest r.to r.next) + 1 in
      let steps = steps_at funs d.fun d.pc in
      let less = give_less (weight funs rs * steps) (weight funs rs * ahead) (steps_in funs rs) (steps_at funs k 0) (as_heavy (weight funs rs) steps ahead le) one in
      let less2 = subst (λ (q : List Waiter). weight funs q * steps + steps_in funs q < 1 * steps_at funs k 0 + (weight funs rs * ahead + steps_in funs rs)) (sym (deliver_frames r.to v caller)) less in (
        needs,
        subst (λ (x : Config). Means fs (place_in fs) (delivered r.to v x) (s.output ++ []) w × (work funs (delivered r.to v x) < work funs c0)) (sym back)
            (subst (λ (o : List ℕ). Means fs (place_in fs) d o w) (sym (append-nil s.output)) means, work_falls funs c0 d (deliver_turns r.to v caller) less2),
      )

  -- States ----------------------------------------------------------------------------------

  module _ (typed : AllTyped fs (place_in fs)) (k pc : ℕ) (f : CFun) (fr : Frame) (below env : List ℕ) (frames : List Waiter) (s : State) (b : ℕ) (outer : Flow → Observation) (old : ℕ) (w : Observation) (le : s.turns ≤ b) (cs : Callers fs (place_in fs) frames below s.turns f outer) where
    abbrev Runs : List Code → Type 0
    Runs left = Stands fs (place_in fs) k pc f left fr env → w ≡ outer (flow_of P b f left fr s) → Sound fs (place_in fs) (config k pc below env s.turns frames old) s.output w (line_at (decoded fs) k pc)

    -- the statement that is next: its line, and what stands ahead of it
    here : (at : ℕ) (to : Target) (i : Instr) (left other : List Code) → slice_get fs k ≡ Some f → Stepping (lines_in fs f) pc to i at → Stands fs (place_in fs) k at f left fr env → Forks fs (place_in fs) to k f other fr env → Here k pc at f left other fr below env frames s b outer to i
    here at to i left other there step st fk = record {
      there = there;
      found = line_there fs k pc f there ∙ step.there;
      within = slice_get_within (lines_in fs f) pc (line i at) step.there;
      ahead = step.ahead;
      behind = st;
      forks = fk;
      enough = le;
      callers = cs;
    }

    -- a statement is sound where its line is
    found_sound : (at : ℕ) (i : Instr) → line_at (decoded fs) k pc ≡ Some (line i at) → Sound fs (place_in fs) (config k pc below env s.turns frames old) s.output w (Some (line i at)) → Sound fs (place_in fs) (config k pc below env s.turns frames old) s.output w (line_at (decoded fs) k pc)
    found_sound at i e h = subst (λ l. Sound fs (place_in fs) (config k pc below env s.turns frames old) s.output w l) (sym e) h

    assign_sound : (at : ℕ) (sigs : List Signature) (x : List ℕ) (e : CExpr) (left : List Code) (o : Option CVar) → Callees fs (level_in f) (place_in fs) sigs → variable_named (variables_of f) x ≡ o → assigned_fits sigs (variables_of f) e o ≡ true → Here k pc at f left [] fr below env frames s b outer (target.Local (position_of x (names_in f))) (expr_instr (names_in f) (function_names fs) (target.Local (position_of x (names_in f))) e) → w ≡ outer (wrap P b (names_in f) (shape_in f) (with (eval_at (level_in f) P b (names_in f) e fr s) fr (delivers (level_in f) P b (names_in f) (target.Local (position_of x (names_in f))) left [] fr))) → Sound fs (place_in fs) (config k pc below env s.turns frames old) s.output w (Some (line (expr_instr (names_in f) (function_names fs) (target.Local (position_of x (names_in f))) e) at))
    assign_sound at sigs x e left None callees es fit h is = absurd (cc)
    assign_sound at sigs x e left (Some v) callees es fit h is =
        expr_sound typed k pc at f left [] fr below env frames s b outer (target.Local (position_of x (names_in f))) v.ty old w (v, variable_at x (variables_of f) v es, refl) sigs e callees fit h is

    called_sound : (at : ℕ) (sigs : List Signature) (c : CCall) (left : List Code) (o : Option CTy) → Callees fs (level_in f) (place_in fs) sigs → call_type sigs (variables_of f) c.callee c.args ≡ o → has_type o ≡ true → Here k pc at f left [] fr below env frames s b outer target.Nowhere (call_of (names_in f) (function_names fs) target.Nowhere c.callee c.args) → w ≡ outer (wrap P b (names_in f) (shape_in f) (with (eval_at (level_in f) P b (names_in f) (expr.Call c) fr s) fr (delivers (level_in f) P b (names_in f) target.Nowhere left [] fr))) → Sound fs (place_in fs) (config k pc below env s.turns frames old) s.output w (Some (line (call_of (names_in f) (function_names fs) target.Nowhere c.callee c.args) at))
    called_sound at sigs c left None callees es fit h is = absurd (cc)
    called_sound at sigs c left (Some t) callees es fit h is =
        expr_sound typed k pc at f left [] fr below env frames s b outer target.Nowhere t old w tt sigs (expr.Call c) callees (ap (is_the_type t) es ∙ same_type_self t) h is

    -- what stands at another place
    stands_at : (at : ℕ) (left now : List Code) → (st : Stands fs (place_in fs) k pc f now fr env) → AllFit st.sigs (variables_of f) f.result left → LeadsAll (names_in f) (function_names fs) (lines_in fs f) (last_in (shape_in f)) left at → Stands fs (place_in fs) k at f left fr env
    stands_at at left now st fits leads = record { there = st.there; sigs = st.sigs; callees = st.callees; fits = fits; leads = leads; holds = st.holds }

    -- what is left is wrapped
    abbrev wrapped : Flow → Observation
    wrapped x = outer (wrap P b (names_in f) (shape_in f) x)

    running_sound : (left : List Code) → Runs left
    unfolding Leads LeadsAll
    running_sound [] st is =
        let lt = slice_get_within (lines_in fs f) pc (line (last_in (shape_in f)) st.leads.0) st.leads.1 in
        let at : line_at (decoded fs) k pc ≡ Some (line (last_in (shape_in f)) st.leads.0) = line_there fs k pc f st.there ∙ st.leads.1 in
        found_sound st.leads.0 (last_in (shape_in f)) at (end_sound typed k pc st.leads.0 f fr below env frames s outer old w cs (omega (arith, lt)) b st le at (shape_in f) refl is)
    running_sound (done ∷ cs1) st is =
        running_sound cs1 (stands_at pc cs1 (done ∷ cs1) st st.fits.1 (subst (λ n. LeadsAll (names_in f) (function_names fs) (lines_in fs f) (last_in (shape_in f)) cs1 n) (sym st.leads.1) st.leads.2)) is
    running_sound (assign x e rest ∷ cs1) st is =
        let p = and_parts (assigned_fits st.sigs (variables_of f) e (variable_named (variables_of f) x)) (code_fits st.sigs (variables_of f) f.result rest) st.fits.0 in
        let to = target.Local (position_of x (names_in f)) in
        let l = st.leads.1 in
        let ahead = stands_at l.0 (rest ∷ cs1) (assign x e rest ∷ cs1) st (p.1, st.fits.1) (st.leads.0, l.2, st.leads.2) in
        let h = here l.0 to (expr_instr (names_in f) (function_names fs) to e) (rest ∷ cs1) [] st.there l.1 ahead tt in
        found_sound l.0 (expr_instr (names_in f) (function_names fs) to e) h.found
        (assign_sound l.0 st.sigs x e (rest ∷ cs1) (variable_named (variables_of f) x) st.callees refl p.0 h (is ∙ ap wrapped (assign_flow (level_in f) P b (names_in f) cs1 fr s x e rest [])))
    running_sound (call c rest ∷ cs1) st is =
        let p = and_parts (has_type (call_type st.sigs (variables_of f) c.callee c.args)) (code_fits st.sigs (variables_of f) f.result rest) st.fits.0 in
        let l = st.leads.1 in
        let ahead = stands_at l.0 (rest ∷ cs1) (call c rest ∷ cs1) st (p.1, st.fits.1) (st.leads.0, l.2, st.leads.2) in
        let h = here l.0 target.Nowhere (call_of (names_in f) (function_names fs) target.Nowhere c.callee c.args) (rest ∷ cs1) [] st.there l.1 ahead tt in
        found_sound l.0 (call_of (names_in f) (function_names fs) target.Nowhere c.callee c.args) h.found
        (called_sound l.0 st.sigs c (rest ∷ cs1) (call_type st.sigs (variables_of f) c.callee c.args) st.callees refl p.0 h (is ∙ ap wrapped (call_flow (level_in f) P b (names_in f) cs1 fr s c rest [])))
    running_sound (return e rest ∷ cs1) st is =
        let p = and_parts (expr_fits st.sigs (variables_of f) e f.result) (code_fits st.sigs (variables_of f) f.result rest) st.fits.0 in
        let l = st.leads.1 in
        let ahead = stands_at l.0 (rest ∷ cs1) (return e rest ∷ cs1) st (p.1, st.fits.1) (st.leads.0, l.2, st.leads.2) in
        let h = here l.0 target.Caller (expr_instr (names_in f) (function_names fs) target.Caller e) (rest ∷ cs1) [] st.there l.1 ahead tt in
        found_sound l.0 (expr_instr (names_in f) (function_names fs) target.Caller e) h.found
        (expr_sound typed k pc l.0 f (rest ∷ cs1) [] fr below env frames s b outer target.Caller f.result old w refl st.sigs e st.callees p.0 h (is ∙ ap wrapped (return_flow (level_in f) P b (names_in f) cs1 fr s e rest [])))
    running_sound (test e x y rest ∷ cs1) st is =
        let fit : Code → Bool = code_fits st.sigs (variables_of f) f.result in
        let p = and_parts (expr_fits st.sigs (variables_of f) e Int) (fit x && (fit y && fit rest)) st.fits.0 in
        let q = and_parts (fit x) (fit y && fit rest) p.1 in
        let r = and_parts (fit y) (fit rest) q.1 in
        let l = st.leads.1 in
        let to = target.Test l.1 in
        let behind : LeadsAll (names_in f) (function_names fs) (lines_in fs f) (last_in (shape_in f)) (rest ∷ cs1) l.2 = (st.leads.0, l.6, st.leads.2) in
        let first = stands_at l.0 (x ∷ rest ∷ cs1) (test e x y rest ∷ cs1) st (q.0, (r.1, st.fits.1)) (l.2, l.4, behind) in
        let second = stands_at l.1 (y ∷ rest ∷ cs1) (test e x y rest ∷ cs1) st (r.0, (r.1, st.fits.1)) (l.2, l.5, behind) in
        let h = here l.0 to (expr_instr (names_in f) (function_names fs) to e) (x ∷ rest ∷ cs1) (y ∷ rest ∷ cs1) st.there l.3 first second in
        found_sound l.0 (expr_instr (names_in f) (function_names fs) to e) h.found
        (expr_sound typed k pc l.0 f (x ∷ rest ∷ cs1) (y ∷ rest ∷ cs1) fr below env frames s b outer to Int old w refl st.sigs e st.callees p.0 h (is ∙ ap wrapped (test_flow (level_in f) P b (names_in f) cs1 fr s e x y rest l.1)))
    running_sound (loop l x rest ∷ cs1) st is = absurd (let no = st.fits.0 in cc)
    running_sound (ended x l rest ∷ cs1) st is = absurd (let no = st.fits.0 in cc)
    running_sound (goto l rest ∷ cs1) st is = absurd (let no = st.fits.0 in cc)
    running_sound (catch l m x rest ∷ cs1) st is = absurd (let no = st.fits.0 in cc)
    running_sound (protect x y rest ∷ cs1) st is = absurd (let no = st.fits.0 in cc)

  -- a state that means something
  pub means_sound : AllTyped fs (place_in fs) → (c : Config) (o : List ℕ) (w : Observation) → Means fs (place_in fs) c o w → Sound fs (place_in fs) c o w (line_at (decoded fs) c.fun c.pc)
  means_sound typed c o w m = ⊎_elim runs gives m
    where
      runs : Running fs (place_in fs) c o w → Sound fs (place_in fs) c o w (line_at (decoded fs) c.fun c.pc)
      runs m =
          let a = running_sound typed m.fn m.pc m.fun m.frame m.below m.env m.frames m.state m.bound m.outer m.value w m.enough m.callers m.left m.stands m.whole in
          let b = subst (λ (q : List ℕ). Sound fs (place_in fs) (config m.fn m.pc m.below m.env m.state.turns m.frames m.value) q w (line_at (decoded fs) m.fn m.pc)) (sym m.out) a in
          subst (λ (x : Config). Sound fs (place_in fs) x o w (line_at (decoded fs) x.fun x.pc)) (sym m.is) b

      gives : Giving fs (place_in fs) c o w → Sound fs (place_in fs) c o w (line_at (decoded fs) c.fun c.pc)
      gives m =
          let c0 = config m.fn 0 m.below m.env m.state.turns m.frames (slot_of m.cell) in
          let a = giving_sound m.fn m.fun m.below m.env m.frames m.state m.cell m.outer w m.there m.fits m.callers m.whole in
          let b = subst (λ i. Sound fs (place_in fs) c0 m.state.output w i) (sym (give_there fs m.fn m.fun m.there)) a in
          let d = subst (λ (q : List ℕ). Sound fs (place_in fs) c0 q w (line_at (decoded fs) m.fn 0)) (sym m.out) b in
          subst (λ (x : Config). Sound fs (place_in fs) x o w (line_at (decoded fs) x.fun x.pc)) (sym m.is) d
