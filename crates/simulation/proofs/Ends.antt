-- How an evaluation and a run of statements end alike.
use Rattle.std.proofs.Common.{◌≡◌, ℕ, List, Some, refl, sym, ap, ◌∙◌, subst}
use Rattle.std.specs.Prelude.{slice_get}
use Rattle.meaning.specs.Value.{Value, State, Outcome, bind}
use Rattle.meaning.specs.Value as src
use Rattle.c_tree.specs.declared.tree.CExpr.{CExpr}
use Rattle.c_tree.specs.declared.tree.CVar.{CVar}
use Rattle.c_tree.specs.Code.{Code, Fun}
use Rattle.c_meaning.specs.Word.{Word}
use Rattle.c_meaning.specs.State.{Cell, Frame, State as CState, put, Answer, Flow, with}
use Rattle.c_meaning.specs.State as c
use Rattle.c_meaning.specs.Execution.{Lower, position_of, exec}
use Rattle.plan_rules.specs.declared.rep.Rep.{Rep}
use Rattle.plan_rules.specs.Translation.{Name, In, Target, into, back, deliver}
use Rattle.simulation.proofs.Frames.{names, Kept, kept_same, kept_on, put_here, kept_put, Free}
use Rattle.simulation.proofs.Worlds.{World, AtBlock, WordOf, IsRep, rep_moves, Grows, grows_same, grows_on, hide, Frozen, frozen_same, frozen_on, frozen_hidden, Same}
use Rattle.simulation.proofs.Evaluations.{eval}

-- from where a part begins
pub record Base : Type 0 where
  pub live : List Name
  pub frame : Frame
  pub world : World
  pub state : State

-- Ends that are no value --------------------------------------------------------------------

pub record BothRaise (code : ℕ) (text : List ℕ) (s : State) (flow : Flow) : Type 0 where
  pub later : World
  pub t : CState
  pub is : flow ≡ c.Raises code text t
  pub same : Same later s t

pub record BothSpend (s : State) (flow : Flow) : Type 0 where
  pub later : World
  pub t : CState
  pub is : flow ≡ c.Spends t
  pub same : Same later s t

-- Answers of calls and operations -----------------------------------------------------------

pub record Answers (world : World) (s0 : State) (r : Rep) (v : Value) (s : State) (a : Answer) : Type 0 where
  pub later : World
  pub cell : Cell
  pub t : CState
  pub is : a ≡ c.Has cell t
  pub here : IsRep later r v cell
  pub grows : Grows world later
  pub frozen : Frozen (hide world) s0 s
  pub same : Same later s t

pub record LeavesToo (world : World) (s0 : State) (x : ℕ) (v : Value) (s : State) (a : Answer) : Type 0 where
  pub later : World
  pub w : Word
  pub j : ℕ
  pub exit : slice_get later x ≡ Some (AtBlock j)
  pub t : CState
  pub is : a ≡ c.Leaves j w t
  pub means : WordOf later v w
  pub grows : Grows world later
  pub frozen : Frozen (hide world) s0 s
  pub same : Same later s t

pub record StopsToo (code : ℕ) (text : List ℕ) (s : State) (a : Answer) : Type 0 where
  pub later : World
  pub t : CState
  pub is : a ≡ c.Stops code text t
  pub same : Same later s t

pub record EndsToo (s : State) (a : Answer) : Type 0 where
  pub later : World
  pub t : CState
  pub is : a ≡ c.Ends t
  pub same : Same later s t

abbrev pub Answered : World → State → Rep → Outcome Value → Answer → Type 0
Answered world s0 r (src.Gives v s) a = Answers world s0 r v s a
Answered world s0 r (src.Escapes x v s) a = LeavesToo world s0 x v s a
Answered world s0 r (src.Raises code text s) a = StopsToo code text s a
Answered world s0 r (src.Spends s) a = EndsToo s a

-- The variables of the function whose statements run, its program, and the bound below.
module _ (vars : List CVar) where
  -- what a part keeps
  pub record Moved (b : Base) (later : World) (s : State) (g : Frame) : Type 0 where
    pub kept : Kept vars b.live b.frame g
    pub grows : Grows b.world later
    pub frozen : Frozen b.world b.state s

  pub moved_same : (b : Base) → Moved b b.world b.state b.frame
  moved_same b = record { kept = kept_same vars b.live b.frame; grows = grows_same b.world; frozen = frozen_same b.world b.state }

  pub moved_on : (b d : Base) (later : World) (s : State) (g : Frame) → ((x : Name) → In x b.live → In x d.live) → Moved b d.world d.state d.frame → Moved d later s g → Moved b later s g
  moved_on b d later s g sub m n = record { kept = kept_on vars sub m.kept n.kept; grows = grows_on m.grows n.grows; frozen = frozen_on m.grows m.frozen n.frozen }

  pub record BothEscape (b : Base) (x : ℕ) (v : Value) (s : State) (flow : Flow) : Type 0 where
    pub later : World
    pub g : Frame
    pub w : Word
    pub j : ℕ
    pub exit : slice_get later x ≡ Some (AtBlock j)
    pub t : CState
    pub is : flow ≡ c.Escapes j w g t
    pub means : WordOf later v w
    pub moved : Moved b later s g
    pub same : Same later s t

  -- an end, where `good` says what a value needs
  abbrev pub Ended : {A : Type 0} (good : A → State → Flow → Type 0) (b : Base) → Outcome A → Flow → Type 0
  Ended good b (src.Gives a s) flow = good a s flow
  Ended good b (src.Escapes x v s) flow = BothEscape b x v s flow
  Ended good b (src.Raises code text s) flow = BothRaise code text s flow
  Ended good b (src.Spends s) flow = BothSpend s flow

  pub bind_ends : {A B : Type 0} (good : A → State → Flow → Type 0) (next : B → State → Flow → Type 0) (b : Base) (o : Outcome A) (k : A → State → Outcome B) (flow : Flow) → Ended good b o flow → ((a : A) (s : State) → good a s flow → Ended next b (k a s) flow) → Ended next b (bind o k) flow
  bind_ends good next b (src.Gives a s) k flow h go = go a s h
  bind_ends good next b (src.Escapes x v s) k flow h go = h
  bind_ends good next b (src.Raises code text s) k flow h go = h
  bind_ends good next b (src.Spends s) k flow h go = h

  pub gives_on : {A : Type 0} (good : A → State → Flow → Type 0) (next : A → State → Flow → Type 0) (b : Base) (o : Outcome A) (flow : Flow) → Ended good b o flow → ((a : A) (s : State) → good a s flow → next a s flow) → Ended next b o flow
  gives_on good next b (src.Gives a s) flow h go = go a s h
  gives_on good next b (src.Escapes x v s) flow h go = h
  gives_on good next b (src.Raises code text s) flow h go = h
  gives_on good next b (src.Spends s) flow h go = h

  -- an end from a later base is one from an earlier
  pub onwards : {A : Type 0} (good next : A → State → Flow → Type 0) (b d : Base) (o : Outcome A) (flow on : Flow) → flow ≡ on → ((x : Name) → In x b.live → In x d.live) → Moved b d.world d.state d.frame → ((a : A) (s : State) → good a s on → next a s on) → Ended good d o on → Ended next b o flow
  onwards good next b d (src.Gives a s) flow on e sub m go h = subst (λ x. next a s x) (sym e) (go a s h)
  onwards good next b d (src.Escapes x v s) flow on e sub m go h =
      record { later = h.later; g = h.g; w = h.w; j = h.j; exit = h.exit; t = h.t; is = e ∙ h.is; means = h.means; moved = moved_on b d h.later s h.g sub m h.moved; same = h.same }
  onwards good next b d (src.Raises code text s) flow on e sub m go h = subst (λ x. BothRaise code text s x) (sym e) h
  onwards good next b d (src.Spends s) flow on e sub m go h = subst (λ x. BothSpend s x) (sym e) h

  module _ (p : List Fun) (lower : Lower) where
    -- the statements that follow are reached, with this of the world and the frame
    pub record Reached (b : Base) (rest : Code) (holds : World → Frame → Type 0) (s : State) (flow : Flow) : Type 0 where
      pub later : World
      pub g : Frame
      pub t : CState
      pub is : flow ≡ exec p lower (names vars) rest g t
      pub here : holds later g
      pub moved : Moved b later s g
      pub same : Same later s t

    pub record Returned (b : Base) (r : Rep) (v : Value) (s : State) (flow : Flow) : Type 0 where
      pub later : World
      pub cell : Cell
      pub t : CState
      pub is : flow ≡ c.Returns cell t
      pub here : IsRep later r v cell
      pub grows : Grows b.world later
      pub frozen : Frozen b.world b.state s
      pub same : Same later s t

    pub reached_on : (b d : Base) (rest : Code) (holds : World → Frame → Type 0) (s : State) (flow : Flow) → ((x : Name) → In x b.live → In x d.live) → Moved b d.world d.state d.frame → Reached d rest holds s flow → Reached b rest holds s flow
    reached_on b d rest holds s flow sub m h =
        record { later = h.later; g = h.g; t = h.t; is = h.is; here = h.here; moved = moved_on b d h.later s h.g sub m h.moved; same = h.same }

    -- a value of a representation is at its target
    abbrev pub Arrived : Target → Rep → Code → Base → Value → State → Flow → Type 0
    Arrived (into x) r rest b v s flow = Reached b rest (λ world f. IsRep world r v (f (position_of x (names vars)))) s flow
    Arrived back r rest b v s flow = Returned b r v s flow

    pub arrived_on : (target : Target) (r : Rep) (rest : Code) (b d : Base) (v : Value) (s : State) (flow : Flow) → ((x : Name) → In x b.live → In x d.live) → Moved b d.world d.state d.frame → Arrived target r rest d v s flow → Arrived target r rest b v s flow
    arrived_on (into x) r rest b d v s flow sub m h = reached_on b d rest (λ world f. IsRep world r v (f (position_of x (names vars)))) s flow sub m h
    arrived_on back r rest b d v s flow sub m h =
        record { later = h.later; cell = h.cell; t = h.t; is = h.is; here = h.here; grows = grows_on m.grows h.grows; frozen = frozen_on m.grows m.frozen h.frozen; same = h.same }

    -- a node's value goes to a target
    abbrev pub At : Target → Rep → Code → Base → Outcome Value → Flow → Type 0
    At target r rest b o flow = Ended (λ v s x. Arrived target r rest b v s x) b o flow

    -- nobody takes a node's value
    abbrev pub Passes : {A : Type 0} → Code → Base → A → State → Flow → Type 0
    Passes rest b v s flow = Reached b rest (λ world f. Unit {0}) s flow

    abbrev pub Passed : {A : Type 0} → Code → Base → Outcome A → Flow → Type 0
    Passed rest b o flow = Ended (λ v s x. Passes rest b v s x) b o flow

    -- an expression's cell goes to a target
    given : (target : Target) (r : Rep) (rest : Code) (b : Base) (v : Value) (s : State) (later : World) (cell : Cell) (t0 t : CState) (e : CExpr) → Free vars b.live target → IsRep later r v cell → Grows b.world later → Frozen b.world b.state s → Same later s t → eval p lower (names vars) e b.frame t0 ≡ c.Has cell t → Arrived target r rest b v s (exec p lower (names vars) (deliver target e rest) b.frame t0)
    given (into x) r rest b v s later cell t0 t e free here grows frozen same is =
        let at = position_of x (names vars) in
        record {
          later = later;
          g = put at cell b.frame;
          t = t;
          is = ap (λ a. with a b.frame (λ k s1. exec p lower (names vars) rest (put at k b.frame) s1)) is;
          here = rep_moves later r v cell (put at cell b.frame at) (put_here at cell b.frame) here;
          moved = record { kept = kept_put vars b.live x cell b.frame free; grows = grows; frozen = frozen };
          same = same;
        }
    given back r rest b v s later cell t0 t e free here grows frozen same is =
        record { later = later; cell = cell; t = t; is = ap (λ a. with a b.frame (λ k s1. c.Returns k s1)) is; here = here; grows = grows; frozen = frozen; same = same }

    -- where the answer is any other, the statement ends so
    ended_so : (target : Target) (rest : Code) (f : Frame) (e : CExpr) (t : CState) (a : Answer) (flow : Flow) → eval p lower (names vars) e f t ≡ a → ((k : Cell → CState → Flow) → with a f k ≡ flow) → exec p lower (names vars) (deliver target e rest) f t ≡ flow
    ended_so (into x) rest f e t a flow is so = ap (λ z. with z f (λ k s1. exec p lower (names vars) rest (put (position_of x (names vars)) k f) s1)) is ∙ so _
    ended_so back rest f e t a flow is so = ap (λ z. with z f (λ k s1. c.Returns k s1)) is ∙ so _

    pub delivered : (target : Target) (r : Rep) (rest : Code) (b : Base) (o : Outcome Value) (e : CExpr) (t : CState) → Free vars b.live target → Answered b.world b.state r o (eval p lower (names vars) e b.frame t) → At target r rest b o (exec p lower (names vars) (deliver target e rest) b.frame t)
    delivered target r rest b (src.Gives v s) e t free h = given target r rest b v s h.later h.cell t h.t e free h.here h.grows (frozen_hidden b.world b.state s h.frozen) h.same h.is
    delivered target r rest b (src.Escapes x v s) e t free h =
        record { later = h.later; g = b.frame; w = h.w; j = h.j; exit = h.exit; t = h.t; is = ended_so target rest b.frame e t _ _ h.is (λ k. refl); means = h.means; moved = record { kept = kept_same vars b.live b.frame; grows = h.grows; frozen = frozen_hidden b.world b.state s h.frozen }; same = h.same }
    delivered target r rest b (src.Raises code text s) e t free h = record { later = h.later; t = h.t; is = ended_so target rest b.frame e t _ _ h.is (λ k. refl); same = h.same }
    delivered target r rest b (src.Spends s) e t free h = record { later = h.later; t = h.t; is = ended_so target rest b.frame e t _ _ h.is (λ k. refl); same = h.same }

    -- an expression's cell is dropped, and the statements that follow run on
    abbrev pub onto : CExpr → Code → Frame → CState → Flow
    onto e rest f t = with (eval p lower (names vars) e f t) f (λ k s1. exec p lower (names vars) rest f s1)

    pub dropped : (r : Rep) (rest : Code) (b : Base) (o : Outcome Value) (e : CExpr) (t : CState) → Answered b.world b.state r o (eval p lower (names vars) e b.frame t) → Passed rest b o (onto e rest b.frame t)
    dropped r rest b (src.Gives v s) e t h =
        record { later = h.later; g = b.frame; t = h.t; is = ap (λ a. with a b.frame (λ k s1. exec p lower (names vars) rest b.frame s1)) h.is; here = tt; moved = record { kept = kept_same vars b.live b.frame; grows = h.grows; frozen = frozen_hidden b.world b.state s h.frozen }; same = h.same }
    dropped r rest b (src.Escapes x v s) e t h =
        record { later = h.later; g = b.frame; w = h.w; j = h.j; exit = h.exit; t = h.t; is = ap (λ a. with a b.frame (λ k s1. exec p lower (names vars) rest b.frame s1)) h.is; means = h.means; moved = record { kept = kept_same vars b.live b.frame; grows = h.grows; frozen = frozen_hidden b.world b.state s h.frozen }; same = h.same }
    dropped r rest b (src.Raises code text s) e t h = record { later = h.later; t = h.t; is = ap (λ a. with a b.frame (λ k s1. exec p lower (names vars) rest b.frame s1)) h.is; same = h.same }
    dropped r rest b (src.Spends s) e t h = record { later = h.later; t = h.t; is = ap (λ a. with a b.frame (λ k s1. exec p lower (names vars) rest b.frame s1)) h.is; same = h.same }
