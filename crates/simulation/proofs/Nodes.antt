-- The statements of a node do what the node does.
use Rattle.std.proofs.Common.{Some, None, ◌≡◌, ℕ, List, [], ◌∷◌, refl, sym, ap, ◌∙◌, subst, inr}
use Rattle.built_table.specs.declared.primitives.Ty.{Ty}
use Rattle.built_table.specs.Table.{params_of, result_of}
use Rattle.core_tree.specs.Tree.{Tree, Constant, Variable, If, Sequence, Call, Primitive, Trees, none, more, ModuleTree}
use Rattle.meaning.specs.Value.{Value, Unspecified, State, Outcome, bind}
use Rattle.meaning.specs.Value as src
use Rattle.meaning.specs.Primitives.{primitive}
use Rattle.meaning.specs.Evaluation.{Environment, Lower, ev, ev_last, evs}
use Rattle.c_tree.specs.declared.op.Op.{Op}
use Rattle.c_tree.specs.declared.op.Op.TheVariants.{BoxLong, BoxBool}
use Rattle.c_tree.specs.declared.tree.CTy.{CTy}
use Rattle.c_tree.specs.declared.tree.CExpr.TheVariants as expr
use Rattle.c_tree.specs.declared.tree.CTy.TheVariants as c_ty
use Rattle.c_tree.specs.declared.tree.CVar.{CVar}
use Rattle.c_tree.specs.Code.{Code, done, Fun}
use Rattle.c_meaning.specs.State.{Cell, Frame, State as CState, Flow}
use Rattle.c_meaning.specs.Execution.{Lower as CLower, exec}
use Rattle.plan_rules.specs.declared.rep.Rep.{Rep}
use Rattle.plan_rules.specs.declared.rep.Rep.TheVariants.{Obj, Long, Bool as Truth_rep}
use Rattle.plan_rules.specs.Representation.{Scope, slot_of, rep_of, has_of, operation, local}
use Rattle.plan_rules.specs.Translation.{Name, In, Target, into, Statements, Boxed, Coerced, haves, objects, Tr, TrUnused, TrAllUnused, TrLast, TrArguments}
use Rattle.simulation.proofs.Frames.{names, Writable, Free}
use Rattle.simulation.proofs.Worlds.{World, IsRep, Same}
use Rattle.simulation.proofs.Boxes.{Boxes, long_boxes, truth_boxes}
use Rattle.simulation.proofs.Ends.{Base, Moved, moved_same, bind_ends, gives_on, onwards, Ended, Reached, reached_on, Arrived, arrived_on, At, Passes, Passed, delivered}
use Rattle.simulation.proofs.Fits.{AllRep, no_values}
use Rattle.simulation.proofs.Scopes.{Ready, ready_on}
use Rattle.simulation.proofs.Variables.{constant_ends, boxed_answers, variable_ends, variable_unused}
use Rattle.simulation.proofs.Arguments.{from, primitive_work, Evaluated, applied, evaluated_first}
use Rattle.simulation.proofs.Branches.{BlockDoes, branches_end}
use Rattle.simulation.proofs.Callees.{CallsDo, Linked, call_ends}

bind_gives : {A : Type 0} (o : Outcome A) → bind o (λ a s. src.Gives a s) ≡ o
bind_gives (src.Gives a s) = refl
bind_gives (src.Escapes x v s) = refl
bind_gives (src.Raises code text s) = refl
bind_gives (src.Spends s) = refl

-- a sequence of one part is that part
pub one_part : (program : List ModuleTree) (m : ModuleTree) (lo : Lower) (t : Tree) (v : Value) (env : Environment) (s : State) → ev_last program m lo (more t none) v env s ≡ ev program m lo t env s
one_part program m lo t v env s = bind_gives (ev program m lo t env s)

module _ (vars : List CVar) (p : List Fun) (lower : CLower) where
  abbrev runs : Code → Frame → CState → Flow
  runs code f t = exec p lower (names vars) code f t

  -- what a node's statements do at any target
  abbrev Gives : Statements → Rep → Base → Outcome Value → CState → Type 0
  Gives given has b o t = (target : Target) (code rest : Code) → given target code rest → Free vars b.live target → At vars p lower target has rest b o (runs code b.frame t)

  -- a value that comes as a number is boxed
  boxed : (o : Op) (ty : CTy) (has : Rep) → ((world : World) (v : Value) (cell : Cell) (t : CState) → IsRep world has v cell → Boxes o world v cell t) → (given : Statements) (target : Target) (rest : Code) (b : Base) (code : Code) (out : Outcome Value) (t : CState) → Boxed vars o ty given b.live target code rest → Free vars b.live target → Gives given has b out t → At vars p lower target Obj rest b out (runs code b.frame t)
  boxed o ty has boxes given target rest b code out t h free go =
      let writable : Writable vars b.live h.temporary = record { fresh = h.fresh; type = ty; is_local = h.is_local } in
      gives_on vars (λ v s flow. Arrived vars p lower (into h.temporary) has h.middle b v s flow) (λ v s flow. Arrived vars p lower target Obj rest b v s flow) b out (runs code b.frame t)
      (go (into h.temporary) code h.middle h.value writable)
      (λ v s r.
      let d = from b.live r.g r.later s in
      let box = expr.Call (operation o (local h.temporary ∷ [])) in
      let e = r.is ∙ ap (λ x. runs x r.g r.t) h.box in
      onwards vars (λ v1 s1 flow. Arrived vars p lower target Obj rest d v1 s1 flow) (λ v1 s1 flow. Arrived vars p lower target Obj rest b v1 s1 flow) b d (src.Gives v s) (runs code b.frame t) _ e (λ x i. i) r.moved (λ v1 s1 a. arrived_on vars p lower target Obj rest b d v1 s1 _ (λ x i. i) r.moved a)
      (delivered vars p lower target Obj rest d (src.Gives v s) box r.t free (boxed_answers vars p lower o h.temporary v r.later r.g s r.t (boxes r.later v _ r.t r.here) r.same)))

  -- a value that comes in one representation, and is wanted in another
  coerced : (has wanted : Rep) (given : Statements) (target : Target) (rest : Code) (b : Base) (code : Code) (o : Outcome Value) (t : CState) → Coerced vars has wanted given b.live target code rest → Free vars b.live target → Gives given has b o t → At vars p lower target wanted rest b o (runs code b.frame t)
  coerced Obj Obj given target rest b code o t h free go = go target code rest h free
  coerced Obj Long given target rest b code o t h free go = absurd h
  coerced Obj Truth_rep given target rest b code o t h free go = absurd h
  coerced Long Obj given target rest b code o t h free go = boxed BoxLong c_ty.Long Long long_boxes given target rest b code o t h free go
  coerced Long Long given target rest b code o t h free go = go target code rest h free
  coerced Long Truth_rep given target rest b code o t h free go = absurd h
  coerced Truth_rep Obj given target rest b code o t h free go = boxed BoxBool c_ty.Int Truth_rep truth_boxes given target rest b code o t h free go
  coerced Truth_rep Long given target rest b code o t h free go = absurd h
  coerced Truth_rep Truth_rep given target rest b code o t h free go = go target code rest h free

  -- a part whose value nobody takes, and what follows it
  sequel : {A B : Type 0} (good : Base → B → State → Flow → Type 0) (middle : Code) (b : Base) (o : Outcome A) (k : A → State → Outcome B) (flow : Flow) → ((d : Base) → d.live ≡ b.live → Moved vars b d.world d.state d.frame → (a : B) (s : State) (x : Flow) → good d a s x → good b a s x) → ((f : Frame) (later : World) (s : State) (t : CState) (a : A) → Moved vars b later s f → Same later s t → Ended vars (good (from b.live f later s)) (from b.live f later s) (k a s) (runs middle f t)) → Passed vars p lower middle b o flow → Ended vars (good b) b (bind o k) flow
  sequel good middle b o k flow on go h =
      bind_ends vars (λ a s x. Passes vars p lower middle b a s x) (good b) b o k flow h
      (λ a s r.
      let d = from b.live r.g r.later s in
      onwards vars (good d) (good b) b d (k a s) flow _ r.is (λ x i. i) r.moved (λ a1 s1 x. on d refl r.moved a1 s1 _ x) (go r.g r.later s r.t a r.moved r.same))

  module _ (program : List ModuleTree) (m : ModuleTree) (linked : Linked program m) (scope : Scope) (lo : Lower) (limit : ℕ) (calls : CallsDo p lower program lo limit) where
    -- a block that gives its value as a word
    abbrev AsWord : Tree → List Name → Target → Code → Type 0
    AsWord n live target code = Coerced vars (has_of scope n Obj) Obj (λ pl cd rs. Tr m scope vars n (has_of scope n Obj) live pl cd rs) live target code done

    block_does : (n : Tree) (b : Base) (target : Target) (env : Environment) (t : CState) → Free vars b.live target → Ready vars scope env limit b t → ((d : Base) (t1 : CState) → Ready vars scope env limit d t1 → Gives (λ pl cd rs. Tr m scope vars n (has_of scope n Obj) d.live pl cd rs) (has_of scope n Obj) d (ev program m lo n env d.state) t1) → BlockDoes vars p lower (Some target) Obj b (AsWord n b.live target) (λ s. ev program m lo n env s)
    block_does n b target env t free ready go f later s t1 code moved same block =
        let d = from b.live f later s in
        coerced (has_of scope n Obj) Obj (λ pl cd rs. Tr m scope vars n (has_of scope n Obj) b.live pl cd rs) target done d code (ev program m lo n env s) t1 block free
        (go d t1 (ready_on vars scope env limit b d t t1 ready (λ x i. i) moved same))

    mutual
      unfolding Tr TrUnused TrAllUnused TrLast TrArguments

      pub sim : (n : Tree) (h : Rep) (b : Base) (target : Target) (code rest : Code) (env : Environment) (t : CState) → Tr m scope vars n h b.live target code rest → Free vars b.live target → Ready vars scope env limit b t → At vars p lower target h rest b (ev program m lo n env b.state) (runs code b.frame t)
      sim (Constant k) h b target code rest env t is free ready = constant_ends vars p lower m scope env limit k h b target code rest t is free ready.same
      sim (Variable x) h b target code rest env t is free ready = variable_ends vars p lower m scope env limit x (slot_of x scope) refl h b target code rest t is free ready
      sim (If test one other) h b target code rest env t is free ready =
          let has = has_of scope test Truth_rep in
          subst (λ z. At vars p lower target z rest b (ev program m lo (If test one other) env b.state) (runs code b.frame t)) (sym is.0)
          (branches_end vars p lower (Some target) Obj has rest (λ pl cd rs. Tr m scope vars test has b.live pl cd rs) (AsWord one b.live target) (AsWord other b.live target) b code (ev program m lo test env b.state) (λ s. ev program m lo one env s) (λ s. ev program m lo other env s) t is.1
          (λ writable. sim test has b (into is.1.temporary) code is.1.middle env t is.1.given writable ready)
          (block_does one b target env t free ready (λ d t1 ready1 pl cd rs tr free1. sim one (has_of scope one Obj) d pl cd rs env t1 tr free1 ready1))
          (block_does other b target env t free ready (λ d t1 ready1 pl cd rs tr free1. sim other (has_of scope other Obj) d pl cd rs env t1 tr free1 ready1)))
      sim (Sequence ts) h b target code rest env t is free ready = sim_last ts h b target code rest Unspecified env t is free ready
      sim (Call g ns) h b target code rest env t is free ready =
          subst (λ z. At vars p lower target z rest b (ev program m lo (Call g ns) env b.state) (runs code b.frame t)) (sym is.0)
          (call_ends program m linked scope vars p lower lo limit calls g (λ temporaries cd middle. TrArguments m scope vars (objects ns) ns b.live temporaries cd middle) ns (Some target) rest code b (evs program m lo ns env b.state) t ready.turns free is.1
          (λ temporaries middle values. sim_arguments ns (objects ns) b temporaries code middle env t values ready))
      sim (Primitive q ns) h b target code rest env t is free ready =
          let r = rep_of (result_of q) in
          let hs = haves scope (params_of q) ns in
          subst (λ z. At vars p lower target z rest b (ev program m lo (Primitive q ns) env b.state) (runs code b.frame t)) (sym is.0)
          (applied vars p lower limit (params_of q) r (primitive_work vars p lower limit q) (Some target) rest (λ vs s. primitive q vs s) (λ vs s. refl) (λ temporaries cd middle. TrArguments m scope vars (params_of q) ns b.live temporaries cd middle) hs b code (evs program m lo ns env b.state) (runs code b.frame t) ready.turns free is.1
          (sim_arguments ns (params_of q) b is.1.temporaries code is.1.middle env t is.1.values ready))

      sim_unused : (n : Tree) (b : Base) (code rest : Code) (env : Environment) (t : CState) → TrUnused m scope vars n b.live code rest → Ready vars scope env limit b t → Passed vars p lower rest b (ev program m lo n env b.state) (runs code b.frame t)
      sim_unused (Constant k) b code rest env t is ready =
          record { later = b.world; g = b.frame; t = t; is = ap (λ x. runs x b.frame t) is; here = tt; moved = moved_same vars b; same = ready.same }
      sim_unused (Variable x) b code rest env t is ready = variable_unused vars p lower m scope env limit x (slot_of x scope) refl b code rest t is ready
      sim_unused (If test one other) b code rest env t is ready =
          let has = has_of scope test Truth_rep in
          branches_end vars p lower None Obj has rest (λ pl cd rs. Tr m scope vars test has b.live pl cd rs) (λ cd. TrUnused m scope vars one b.live cd done) (λ cd. TrUnused m scope vars other b.live cd done) b code (ev program m lo test env b.state) (λ s. ev program m lo one env s) (λ s. ev program m lo other env s) t is
          (λ writable. sim test has b (into is.temporary) code is.middle env t is.given writable ready)
          (λ f later s t1 cd moved same block. sim_unused one (from b.live f later s) cd done env t1 block (ready_on vars scope env limit b (from b.live f later s) t t1 ready (λ x i. i) moved same))
          (λ f later s t1 cd moved same block. sim_unused other (from b.live f later s) cd done env t1 block (ready_on vars scope env limit b (from b.live f later s) t t1 ready (λ x i. i) moved same))
      sim_unused (Sequence ts) b code rest env t is ready = sim_all_unused ts b code rest Unspecified env t is ready
      sim_unused (Call g ns) b code rest env t is ready =
          call_ends program m linked scope vars p lower lo limit calls g (λ temporaries cd middle. TrArguments m scope vars (objects ns) ns b.live temporaries cd middle) ns None rest code b (evs program m lo ns env b.state) t ready.turns tt is
          (λ temporaries middle values. sim_arguments ns (objects ns) b temporaries code middle env t values ready)
      sim_unused (Primitive q ns) b code rest env t is ready =
          let r = rep_of (result_of q) in
          let hs = haves scope (params_of q) ns in
          applied vars p lower limit (params_of q) r (primitive_work vars p lower limit q) None rest (λ vs s. primitive q vs s) (λ vs s. refl) (λ temporaries cd middle. TrArguments m scope vars (params_of q) ns b.live temporaries cd middle) hs b code (evs program m lo ns env b.state) (runs code b.frame t) ready.turns tt is
          (sim_arguments ns (params_of q) b is.temporaries code is.middle env t is.values ready)

      pub sim_all_unused : (ts : Trees) (b : Base) (code rest : Code) (v : Value) (env : Environment) (t : CState) → TrAllUnused m scope vars ts b.live code rest → Ready vars scope env limit b t → Passed vars p lower rest b (ev_last program m lo ts v env b.state) (runs code b.frame t)
      sim_all_unused none b code rest v env t is ready =
          record { later = b.world; g = b.frame; t = t; is = ap (λ x. runs x b.frame t) is; here = tt; moved = moved_same vars b; same = ready.same }
      sim_all_unused (more n ns) b code rest v env t is ready =
          sequel (λ d u s x. Passes vars p lower rest d u s x) is.middle b (ev program m lo n env b.state) (λ u s. ev_last program m lo ns u env s) (runs code b.frame t)
          (λ d e moved u s x r. reached_on vars p lower b d rest (λ world f. Unit {0}) s x (λ y i. subst (λ l. In y l) (sym e) i) moved r)
          (λ f later s t1 u moved same. sim_all_unused ns (from b.live f later s) is.middle rest u env t1 is.all (ready_on vars scope env limit b (from b.live f later s) t t1 ready (λ x i. i) moved same))
          (sim_unused n b code is.middle env t is.one ready)

      sim_last : (ts : Trees) (h : Rep) (b : Base) (target : Target) (code rest : Code) (v : Value) (env : Environment) (t : CState) → TrLast m scope vars ts h b.live target code rest → Free vars b.live target → Ready vars scope env limit b t → At vars p lower target h rest b (ev_last program m lo ts v env b.state) (runs code b.frame t)
      sim_last none h b target code rest v env t is free ready = absurd is
      sim_last (more n none) h b target code rest v env t is free ready =
          subst (λ o. At vars p lower target h rest b o (runs code b.frame t)) (sym (one_part program m lo n v env b.state))
          (coerced (has_of scope n h) h (λ pl cd rs. Tr m scope vars n (has_of scope n h) b.live pl cd rs) target rest b code (ev program m lo n env b.state) t is free
          (λ pl cd rs tr free1. sim n (has_of scope n h) b pl cd rs env t tr free1 ready))
      sim_last (more n (more u us)) h b target code rest v env t is free ready =
          sequel (λ d w s x. Arrived vars p lower target h rest d w s x) is.middle b (ev program m lo n env b.state) (λ w s. ev_last program m lo (more u us) w env s) (runs code b.frame t)
          (λ d e moved w s x r. arrived_on vars p lower target h rest b d w s x (λ y i. subst (λ l. In y l) (sym e) i) moved r)
          (λ f later s t1 w moved same. sim_last (more u us) h (from b.live f later s) target is.middle rest w env t1 is.all free (ready_on vars scope env limit b (from b.live f later s) t t1 ready (λ x i. i) moved same))
          (sim_unused n b code is.middle env t is.one ready)

      sim_arguments : (ns : Trees) (ts : List Ty) (b : Base) (temporaries : List Name) (code rest : Code) (env : Environment) (t : CState) → TrArguments m scope vars ts ns b.live temporaries code rest → Ready vars scope env limit b t → Evaluated vars p lower (haves scope ts ns) temporaries rest b (evs program m lo ns env b.state) (runs code b.frame t)
      sim_arguments none [] b temporaries code rest env t is ready =
          record { later = b.world; g = b.frame; t = t; is = ap (λ x. runs x b.frame t) is.1; here = subst (λ z. AllRep vars b.world b.frame [] [] z) (sym is.0) no_values; moved = moved_same vars b; same = ready.same }
      sim_arguments (more n ns) (type ∷ ts) b temporaries code rest env t is ready =
          let r = has_of scope n (rep_of type) in
          let hs = haves scope ts ns in
          let flow = runs code b.frame t in
          let live = is.first ∷ b.live in
          let writable : Writable vars b.live is.first = record { fresh = is.fresh; type = _; is_local = is.is_local } in
          subst (λ z. Evaluated vars p lower (r ∷ hs) z rest b (evs program m lo (more n ns) env b.state) flow) (sym is.are)
          (bind_ends vars (λ v s x. Arrived vars p lower (into is.first) r is.middle b v s x) (λ vs s x. Reached vars p lower b rest (λ world f. AllRep vars world f (r ∷ hs) vs (is.first ∷ is.rest)) s x) b (ev program m lo n env b.state) (λ v s. bind (evs program m lo ns env s) (λ vs s2. src.Gives (v ∷ vs) s2)) flow
          (sim n r b (into is.first) code is.middle env t is.given writable ready)
          (λ v s here. evaluated_first vars p lower r hs is.first is.rest is.middle rest b v s (evs program m lo ns env s) flow writable here
          (λ f later t1 moved same. sim_arguments ns ts (from live f later s) is.rest is.middle rest env t1 is.all (ready_on vars scope env limit b (from live f later s) t t1 ready (λ x i. inr i) moved same))))
      sim_arguments none (type ∷ ts) b temporaries code rest env t is ready = absurd is
      sim_arguments (more n ns) [] b temporaries code rest env t is ready = absurd is
