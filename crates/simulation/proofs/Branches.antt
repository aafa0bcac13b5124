-- A test, and by it one of two blocks. Each block ends like the whole, and what follows comes after the one that was taken.
use Rattle.std.proofs.Common.{Option, Some, None, ◌≡◌, List, [], ◌∷◌, Bool, true, false, sym, ap, ◌∙◌}
use Rattle.std.specs.Prelude.{if◌then◌else◌}
use Rattle.meaning.specs.Value.{Value, Fixnum, Boolean, Empty, Unspecified, State, Outcome, bind}
use Rattle.meaning.specs.Value as src
use Rattle.meaning.specs.Evaluation.{is_true}
use Rattle.c_tree.specs.declared.op.Op.TheVariants.{Truth}
use Rattle.c_tree.specs.declared.tree.CVar.{CVar}
use Rattle.c_tree.specs.Code.{Code, done, Fun}
use Rattle.c_meaning.specs.Word.{Word}
use Rattle.c_meaning.specs.State.{Cell, ANumber, Frame, State as CState, Flow, Answer, with, chosen, after}
use Rattle.c_meaning.specs.State as c
use Rattle.c_meaning.specs.Operations.{ACell, operate, truth_number}
use Rattle.c_meaning.specs.Operations as op
use Rattle.c_meaning.specs.Execution.{Lower, position_of, exec}
use Rattle.plan_rules.specs.declared.rep.Rep.{Rep}
use Rattle.plan_rules.specs.declared.rep.Rep.TheVariants.{Obj, Long, Bool as Truth_rep}
use Rattle.plan_rules.specs.Representation.{condition}
use Rattle.plan_rules.specs.Translation.{Name, Target, into, back, Statements, Branches}
use Rattle.simulation.proofs.Frames.{names, Writable}
use Rattle.simulation.proofs.Worlds.{World, WordOf, IsRep, Same}
use Rattle.simulation.proofs.Ends.{Base, Moved, bind_ends, onwards, Arrived, At}
use Rattle.simulation.proofs.Arguments.{from, Settled, Settles, settled_on}
use Rattle.simulation.proofs.Evaluations.{eval}

-- The condition -----------------------------------------------------------------------------

word_truth : (world : World) (v : Value) (w : Word) → WordOf world v w → op.is_true w ≡ is_true v
word_truth world (Fixnum n) w h = ap op.is_true h
word_truth world (Boolean true) w h = ap op.is_true h
word_truth world (Boolean false) w h = ap op.is_true h
word_truth world Empty w h = ap op.is_true h
word_truth world Unspecified w h = ap op.is_true h

module _ (vars : List CVar) (p : List Fun) (lower : Lower) where
  abbrev runs : Code → Frame → CState → Flow
  runs code f t = exec p lower (names vars) code f t

  -- the condition of a value in a local is its truth
  condition_so : (has : Rep) (world : World) (v : Value) (y : Name) (f : Frame) (t : CState) → IsRep world has v (f (position_of y (names vars))) → eval p lower (names vars) (condition has y) f t ≡ c.Has (ANumber (truth_number (is_true v))) t
  condition_so Obj world v y f t here = ap (λ k. operate Truth (ACell k ∷ []) t) here.is ∙ ap (λ q. c.Has (ANumber (truth_number q)) t) (word_truth world v here.w here.means)
  condition_so Long world v y f t here = ap (λ u. c.Has (ANumber (truth_number (is_true u))) t) (sym here.value)
  condition_so Truth_rep world v y f t here = ap (λ k. c.Has k t) here.is ∙ ap (λ u. c.Has (ANumber (truth_number (is_true u))) t) (sym here.value)

  -- Blocks ----------------------------------------------------------------------------------

  -- a block that is done goes on with what follows, and any other end is the whole's
  abbrev followed : Code → Flow → Flow
  followed rest flow = after flow (λ g t. runs rest g t)

  settled_after : (to : Option Target) (r : Rep) (rest : Code) (b : Base) (v : Value) (s : State) (flow : Flow) → Settled vars p lower to r done b v s flow → Settled vars p lower to r rest b v s (followed rest flow)
  settled_after (Some (into x)) r rest b v s flow h = record { later = h.later; g = h.g; t = h.t; is = ap (followed rest) h.is; here = h.here; moved = h.moved; same = h.same }
  settled_after (Some back) r rest b v s flow h =
      record { later = h.later; cell = h.cell; t = h.t; is = ap (followed rest) h.is; here = h.here; grows = h.grows; frozen = h.frozen; same = h.same }
  settled_after None r rest b v s flow h = record { later = h.later; g = h.g; t = h.t; is = ap (followed rest) h.is; here = h.here; moved = h.moved; same = h.same }

  settles_after : (to : Option Target) (r : Rep) (rest : Code) (b : Base) (o : Outcome Value) (flow : Flow) → Settles vars p lower to r done b o flow → Settles vars p lower to r rest b o (followed rest flow)
  settles_after to r rest b (src.Gives v s) flow h = settled_after to r rest b v s flow h
  settles_after to r rest b (src.Escapes x v s) flow h =
      record { later = h.later; g = h.g; w = h.w; j = h.j; exit = h.exit; t = h.t; is = ap (followed rest) h.is; means = h.means; moved = h.moved; same = h.same }
  settles_after to r rest b (src.Raises code text s) flow h = record { later = h.later; t = h.t; is = ap (followed rest) h.is; same = h.same }
  settles_after to r rest b (src.Spends s) flow h = record { later = h.later; t = h.t; is = ap (followed rest) h.is; same = h.same }

  -- what a block's statements do
  abbrev pub BlockDoes : Option Target → Rep → Base → (Code → Type 0) → (State → Outcome Value) → Type 0
  BlockDoes to r b block does =
      (f : Frame) (later : World) (s : State) (t : CState) (code : Code) → Moved vars b later s f → Same later s t → block code → Settles vars p lower to r done (from b.live f later s) (does s) (runs code f t)

  -- C takes the block that the source takes
  taken : (q : Bool) (to : Option Target) (r : Rep) (rest : Code) (b : Base) (o1 o2 : Outcome Value) (t : CState) (first second : Flow) → Settles vars p lower to r done b o1 first → Settles vars p lower to r done b o2 second → Settles vars p lower to r rest b (if q then o1 else o2) (followed rest (chosen (ANumber (truth_number q)) t first second))
  taken true to r rest b o1 o2 t first second h k = settles_after to r rest b o1 first h
  taken false to r rest b o1 o2 t first second h k = settles_after to r rest b o2 second k

  -- the test, the block that it chooses, and what follows
  pub branches_end : (to : Option Target) (r has : Rep) (rest : Code) (value : Statements) (one other : Code → Type 0) (b : Base) (code : Code) (o : Outcome Value) (does_one does_other : State → Outcome Value) (t : CState) → (a : Branches vars has value b.live one other code rest) → (Writable vars b.live a.temporary → At vars p lower (into a.temporary) has a.middle b o (runs code b.frame t)) → BlockDoes to r b one does_one → BlockDoes to r b other does_other → Settles vars p lower to r rest b (bind o (λ v s. if is_true v then does_one s else does_other s)) (runs code b.frame t)
  branches_end to r has rest value one other b code o does_one does_other t a tested first second =
      bind_ends vars (λ v s x. Arrived vars p lower (into a.temporary) has a.middle b v s x) (λ v s x. Settled vars p lower to r rest b v s x) b o (λ v s. if is_true v then does_one s else does_other s) (runs code b.frame t)
      (tested (record { fresh = a.fresh; type = _; is_local = a.is_local }))
      (λ v s h.
      let d = from b.live h.g h.later s in
      let e = h.is ∙ ap (λ x. runs x h.g h.t) a.is ∙ ap (λ k. with k h.g (λ cell t1. followed rest (chosen cell t1 (runs a.first h.g t1) (runs a.second h.g t1)))) (condition_so has h.later v a.temporary h.g h.t h.here) in
      onwards vars (λ v1 s1 x. Settled vars p lower to r rest d v1 s1 x) (λ v1 s1 x. Settled vars p lower to r rest b v1 s1 x) b d (if is_true v then does_one s else does_other s) (runs code b.frame t) _ e (λ x i. i) h.moved
      (λ v1 s1 x. settled_on vars p lower to r rest b d v1 s1 _ (λ y i. i) h.moved x)
      (taken (is_true v) to r rest d (does_one s) (does_other s) h.t (runs a.first h.g h.t) (runs a.second h.g h.t) (first h.g h.later s h.t a.first h.moved h.same a.taken) (second h.g h.later s h.t a.second h.moved h.same a.else_taken)))
