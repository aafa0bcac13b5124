-- Arguments are evaluated to temporaries, tested and made to fit, and then something is done with them.
use Rattle.std.proofs.Common.{Option, Some, None, ◌≡◌, ℕ, ◌≤◌, List, ◌∷◌, ◌++◌, length, true, refl, sym, ap, ◌∙◌, subst, inl, inr, arith}
use Rattle.std.specs.Prelude.{nat_eq, map, if◌then◌else◌}
use Rattle.scheme_data.specs.Decimal.{decimal_text}
use Rattle.prim_table.specs.Errors.{number_of}
use Rattle.prim_table.specs.declared.errors.ErrCode.TheVariants.{WrongType, ArgumentCount}
use Rattle.built_table.specs.declared.primitives.Ty.{Ty}
use Rattle.built_table.specs.declared.primitives.Primitive.{Primitive as Builtin}
use Rattle.built_table.specs.Table.{params_of, result_of, type_name}
use Rattle.meaning.specs.Value.{Value, State, Outcome, bind}
use Rattle.meaning.specs.Value as src
use Rattle.meaning.specs.Primitives.{act, counted, tested}
use Rattle.c_tree.specs.Operations.{primitive_op}
use Rattle.c_tree.specs.declared.tree.CArg.{CArg}
use Rattle.c_tree.specs.declared.tree.CCall.{CCall}
use Rattle.c_tree.specs.declared.tree.CExpr.TheVariants as expr
use Rattle.c_tree.specs.declared.tree.CVar.{CVar}
use Rattle.c_tree.specs.Code.{Code, call, Fun}
use Rattle.c_meaning.specs.State.{Frame, State as CState, Flow}
use Rattle.c_meaning.specs.Execution.{Lower, position_of, exec}
use Rattle.plan_rules.specs.declared.rep.Rep.{Rep}
use Rattle.plan_rules.specs.Representation.{rep_of, operation, local}
use Rattle.plan_rules.specs.Translation.{Name, In, Target, deliver, AllFit, Applied}
use Rattle.simulation.proofs.Frames.{names, kept_on, Writable, Free, within_left, in_right}
use Rattle.simulation.proofs.Worlds.{World, IsRep, rep_moves, rep_grows, Same}
use Rattle.simulation.proofs.Ends.{Base, Moved, Answered, Ended, bind_ends, onwards, Reached, reached_on, Arrived, arrived_on, Passes, delivered, dropped}
use Rattle.simulation.proofs.Fits.{AllRep, value, AllArgs, AllDone, passed, failed, all_done, as_many}
use Rattle.simulation.proofs.Primitives.{acts_alike}
use Rattle.simulation.proofs.Evaluations.{eval}

counted_so : {A : Type 0} (want have : ℕ) (s : State) (o : Outcome A) → nat_eq have want ≡ true → counted want have s o ≡ o
counted_so want have s o e = ap (λ b. if b then o else src.Raises (number_of ArgumentCount) (decimal_text want) s) e

-- a base that goes on from what was reached
abbrev pub from : List Name → Frame → World → State → Base
from live f world s = record { live = live; frame = f; world = world; state = s }

-- the value of a call goes to a target, or None
abbrev pub finish : Option Target → Code → CCall → Code
finish (Some target) rest c = deliver target (expr.Call c) rest
finish None rest c = call c rest

abbrev pub Open : List CVar → List Name → Option Target → Type 0
Open vars live (Some target) = Free vars live target
Open vars live None = Unit {0}

module _ (vars : List CVar) (p : List Fun) (lower : Lower) where
  abbrev runs : Code → Frame → CState → Flow
  runs code f t = exec p lower (names vars) code f t

  -- Sinks

  abbrev pub Settled : Option Target → Rep → Code → Base → Value → State → Flow → Type 0
  Settled (Some target) r rest b v s flow = Arrived vars p lower target r rest b v s flow
  Settled None r rest b v s flow = Passes vars p lower rest b v s flow

  abbrev pub Settles : Option Target → Rep → Code → Base → Outcome Value → Flow → Type 0
  Settles to r rest b o flow = Ended vars (λ v s x. Settled to r rest b v s x) b o flow

  pub settled_on : (to : Option Target) (r : Rep) (rest : Code) (b d : Base) (v : Value) (s : State) (flow : Flow) → ((x : Name) → In x b.live → In x d.live) → Moved vars b d.world d.state d.frame → Settled to r rest d v s flow → Settled to r rest b v s flow
  settled_on (Some target) r rest b d v s flow sub m h = arrived_on vars p lower target r rest b d v s flow sub m h
  settled_on None r rest b d v s flow sub m h = reached_on vars p lower b d rest (λ world f. Unit {0}) s flow sub m h

  finished : (to : Option Target) (r : Rep) (rest : Code) (d : Base) (o : Outcome Value) (c : CCall) (t : CState) → Open vars d.live to → Answered d.world d.state r o (eval p lower (names vars) (expr.Call c) d.frame t) → Settles to r rest d o (runs (finish to rest c) d.frame t)
  finished (Some target) r rest d o c t free h = delivered vars p lower target r rest d o (expr.Call c) t free h
  finished None r rest d o c t free h = dropped vars p lower r rest d o (expr.Call c) t h

  -- Work

  -- what is done with arguments of these types, alike on both sides, where at most so many turns are left
  pub record Work (limit : ℕ) (ts : List Ty) (r : Rep) : Type 0 where
    pub core : List Value → State → Outcome Value
    pub doing : List CArg → CCall
    pub acts : (world : World) (vs : List Value) (made : List Name) (f : Frame) (s : State) (t : CState) → s.turns ≤ limit → AllArgs vars world f ts vs made → Same world s t → Answered world s r (core vs s) (eval p lower (names vars) (expr.Call (doing (map local made))) f t)

  abbrev pub primitive_work : (limit : ℕ) (q : Builtin) → Work limit (params_of q) (rep_of (result_of q))
  primitive_work limit q = record { core = act q; doing = λ args. operation (primitive_op q) args; acts = λ world vs made f s t low all same. acts_alike q vars world vs made f s t all same }

  module _ (limit : ℕ) (ts : List Ty) (r : Rep) (w : Work limit ts r) (to : Option Target) (rest : Code) where
    -- the arguments' number, their types, the work
    abbrev pub whole : List Value → State → Outcome Value
    whole vs s = counted (length ts) (length vs) s (tested ts vs s (w.core vs s))

    tests_end : (b : Base) (made : List Name) (middle last : Code) (vs : List Value) (s : State) (world : World) (f : Frame) (t : CState) (live : List Name) → b.state.turns ≤ limit → Open vars b.live to → last ≡ finish to rest (w.doing (map local made)) → nat_eq (length vs) (length ts) ≡ true → ((x : Name) → In x b.live → In x live) → Moved vars b world s f → Same world s t → AllDone vars p lower world t s live f ts vs middle made last → Settles to r rest b (whole vs s) (runs middle f t)
    tests_end b made middle last vs s world f t live low free is many sub moved same (passed g so e kept all) =
        let d = from b.live g world s in
        let m : Moved vars b world s g = record { kept = kept_on vars sub moved.kept kept; grows = moved.grows; frozen = moved.frozen } in
        let as_work : whole vs s ≡ w.core vs s = counted_so (length ts) (length vs) s _ many ∙ so (w.core vs s) in
        let low_here : s.turns ≤ limit = omega (arith, low, moved.frozen.turns) in
        subst (λ o. Settles to r rest b o (runs middle f t)) (sym as_work)
        (onwards vars (λ v s1 x. Settled to r rest d v s1 x) (λ v s1 x. Settled to r rest b v s1 x) b d (w.core vs s) (runs middle f t) _ (e ∙ ap (λ x. runs x g t) is) (λ x i. i) m (λ v s1 h. settled_on to r rest b d v s1 _ (λ x i. i) m h)
        (finished to r rest d (w.core vs s) (w.doing (map local made)) t free (w.acts world vs made g s t low_here all same)))
    tests_end b made middle last vs s world f t live low free is many sub moved same (failed type so e) =
        let as_error : whole vs s ≡ src.Raises (number_of WrongType) (type_name type) s = counted_so (length ts) (length vs) s _ many ∙ so (w.core vs s) in
        subst (λ o. Settles to r rest b o (runs middle f t)) (sym as_error) (record { later = world; t = t; is = e; same = same })

    fitted : (hs : List Rep) (b : Base) (temporaries made : List Name) (middle last : Code) (vs : List Value) (s : State) (flow : Flow) → b.state.turns ≤ limit → Open vars b.live to → AllFit vars ts hs temporaries (temporaries ++ b.live) middle made last → last ≡ finish to rest (w.doing (map local made)) → Reached vars p lower b middle (λ world f. AllRep vars world f hs vs temporaries) s flow → Settles to r rest b (whole vs s) flow
    fitted hs b temporaries made middle last vs s flow low free fit is h =
        let live = temporaries ++ b.live in
        subst (λ x. Settles to r rest b (whole vs s) x) (sym h.is)
        (tests_end b made middle last vs s h.later h.g h.t live low free is (as_many vars h.later h.g ts hs vs temporaries live middle made last fit h.here) (λ x i. in_right temporaries b.live x i) h.moved h.same
        (all_done vars p lower h.later h.t s ts hs vs temporaries live middle made last h.g fit h.here (within_left temporaries b.live)))

  -- Evaluation

  -- the values of arguments stand in temporaries
  abbrev pub Evaluated : List Rep → List Name → Code → Base → Outcome (List Value) → Flow → Type 0
  Evaluated hs temporaries rest b o flow = Ended vars (λ vs s x. Reached vars p lower b rest (λ world f. AllRep vars world f hs vs temporaries) s x) b o flow

  pub applied : (limit : ℕ) (ts : List Ty) (r : Rep) (w : Work limit ts r) (to : Option Target) (rest : Code) (k : List Value → State → Outcome Value) → ((vs : List Value) (s : State) → k vs s ≡ whole limit ts r w to rest vs s) → (arguments : List Name → Code → Code → Type 0) (hs : List Rep) (b : Base) (code : Code) (o : Outcome (List Value)) (flow : Flow) → b.state.turns ≤ limit → Open vars b.live to → (a : Applied vars arguments ts hs b.live (λ args. finish to rest (w.doing args)) code) → Evaluated hs a.temporaries a.middle b o flow → Settles to r rest b (bind o k) flow
  applied limit ts r w to rest k so arguments hs b code o flow low free a evaluated =
      bind_ends vars (λ vs s x. Reached vars p lower b a.middle (λ world f. AllRep vars world f hs vs a.temporaries) s x) (λ v s x. Settled to r rest b v s x) b o k flow evaluated
      (λ vs s h. subst (λ z. Settles to r rest b z flow) (sym (so vs s)) (fitted limit ts r w to rest hs b a.temporaries a.made a.middle a.last vs s flow low free a.fit a.is h))

  pub evaluated_first : (r : Rep) (hs : List Rep) (first : Name) (others : List Name) (middle rest : Code) (b : Base) (v : Value) (s : State) (o : Outcome (List Value)) (flow : Flow) → Writable vars b.live first → Reached vars p lower b middle (λ world f. IsRep world r v (f (position_of first (names vars)))) s flow → ((f : Frame) (later : World) (t : CState) → Moved vars b later s f → Same later s t → Evaluated hs others rest (from (first ∷ b.live) f later s) o (runs middle f t)) → Evaluated (r ∷ hs) (first ∷ others) rest b (bind o (λ vs s2. src.Gives (v ∷ vs) s2)) flow
  evaluated_first r hs first others middle rest b v s o flow writable h go =
      let d = from (first ∷ b.live) h.g h.later s in
      let at = position_of first (names vars) in
      onwards vars (λ vs s1 x. Reached vars p lower d rest (λ world f. AllRep vars world f (r ∷ hs) vs (first ∷ others)) s1 x) (λ vs s1 x. Reached vars p lower b rest (λ world f. AllRep vars world f (r ∷ hs) vs (first ∷ others)) s1 x) b d (bind o (λ vs s2. src.Gives (v ∷ vs) s2)) flow _ h.is (λ x i. inr i) h.moved
      (λ vs s1 x. reached_on vars p lower b d rest (λ world f. AllRep vars world f (r ∷ hs) vs (first ∷ others)) s1 _ (λ y i. inr i) h.moved x)
      (bind_ends vars (λ vs s1 x. Reached vars p lower d rest (λ world f. AllRep vars world f hs vs others) s1 x) (λ vs s1 x. Reached vars p lower d rest (λ world f. AllRep vars world f (r ∷ hs) vs (first ∷ others)) s1 x) d o (λ vs s2. src.Gives (v ∷ vs) s2) (runs middle h.g h.t)
      (go h.g h.later h.t h.moved h.same)
      (λ vs s1 x. record { later = x.later; g = x.g; t = x.t; is = x.is; here = value (rep_moves x.later r v (h.g at) (x.g at) (x.moved.kept.by first (inl refl)) (rep_grows r v (h.g at) h.later x.later x.moved.grows h.here)) x.here; moved = x.moved; same = x.same }))
