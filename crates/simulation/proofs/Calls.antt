-- Calls of translated functions do what the functions do.
use Rattle.std.proofs.Common.{◌≡◌, ℕ, zero, suc, ◌≤◌, List, [], length, Some, refl, sym, ap, ◌∙◌, subst, arith}
use Rattle.std.specs.Prelude.{slice_get, map}
use Rattle.core_tree.specs.Tree.{Sequence, none, more, FunctionTree, ModuleTree, Callee}
use Rattle.meaning.specs.Value.{Value, Unspecified, State, Outcome, take_from, take_turn}
use Rattle.meaning.specs.Value as src
use Rattle.meaning.specs.Procedures.{Procedure, procedure_of}
use Rattle.meaning.specs.Evaluation as source
use Rattle.meaning.specs.Evaluation.{Environment, bound, ev}
use Rattle.c_tree.specs.Code.{done, Fun}
use Rattle.c_meaning.specs.Word.{Word}
use Rattle.c_meaning.specs.State.{Cell, Frame, State as CState, Flow, Answer, blank, answer}
use Rattle.c_meaning.specs.State as c
use Rattle.c_meaning.specs.Execution.{Lower, run, exec, again, looped, enter, entry, fun_named, names_of}
use Rattle.c_meaning.specs.Plain.{variables_of}
use Rattle.plan_rules.specs.declared.rep.Rep.TheVariants.{Obj}
use Rattle.plan_rules.specs.Translation.{Name, back, scope_of, c_name_of, TrFunction}
use Rattle.simulation.proofs.Frames.{names}
use Rattle.simulation.proofs.Worlds.{World, AtBlock, WordOf, IsRep, Words, Grows, hide, Frozen, Same}
use Rattle.simulation.proofs.Restored.{restore, restore_grows, restore_block, word_blocks, cell_blocks, words_hidden, same_hidden, same_restored}
use Rattle.simulation.proofs.Ends.{Base, Answered, StopsToo, EndsToo, At}
use Rattle.simulation.proofs.Scopes.{Scoped, parameters}
use Rattle.simulation.proofs.Found.{Found}
use Rattle.simulation.proofs.Callees.{CallsDo, Linked}
use Rattle.simulation.proofs.Nodes.{one_part, sim}

-- The callee's world ------------------------------------------------------------------------

record GivesToo (world : World) (s0 : State) (v : Value) (s : State) (a : Answer) : Type 0 where
  later : World
  cell : Cell
  t : CState
  is : a ≡ c.Has cell t
  here : IsRep later Obj v cell
  grows : Grows world later
  frozen : Frozen world s0 s
  same : Same later s t

record EscapesToo (world : World) (s0 : State) (x : ℕ) (v : Value) (s : State) (a : Answer) : Type 0 where
  later : World
  w : Word
  j : ℕ
  exit : slice_get later x ≡ Some (AtBlock j)
  t : CState
  is : a ≡ c.Leaves j w t
  means : WordOf later v w
  grows : Grows world later
  frozen : Frozen world s0 s
  same : Same later s t

abbrev Called : World → State → Outcome Value → Answer → Type 0
Called world s0 (src.Gives v s) a = GivesToo world s0 v s a
Called world s0 (src.Escapes x v s) a = EscapesToo world s0 x v s a
Called world s0 (src.Raises code text s) a = StopsToo code text s a
Called world s0 (src.Spends s) a = EndsToo s a

-- back in the caller's world
from_call : (world : World) (s0 : State) (o : Outcome Value) (a : Answer) → Called (hide world) s0 o a → Answered world s0 Obj o a
from_call world s0 (src.Gives v s) a h =
    record { later = restore world h.later; cell = h.cell; t = h.t; is = h.is; here = cell_blocks v h.cell h.later (restore world h.later) (restore_block world h.later h.grows) h.here; grows = restore_grows world h.later; frozen = h.frozen; same = same_restored world h.later s h.t h.grows h.same }
from_call world s0 (src.Escapes x v s) a h =
    record {
      later = restore world h.later;
      w = h.w;
      j = h.j;
      exit = restore_block world h.later h.grows x h.j h.exit;
      t = h.t;
      is = h.is;
      means = word_blocks v h.w h.later (restore world h.later) (restore_block world h.later h.grows) h.means;
      grows = restore_grows world h.later;
      frozen = h.frozen;
      same = same_restored world h.later s h.t h.grows h.same;
    }
from_call world s0 (src.Raises code text s) a h = h
from_call world s0 (src.Spends s) a h = h

-- Turns -------------------------------------------------------------------------------------

-- a turn was taken before
frozen_turn : (world : World) (n : ℕ) (s later : State) → s.turns ≡ suc n → Frozen world (record s { turns = n }) later → Frozen world s later
frozen_turn world n s later e h = record { turns = omega (arith, e, h.turns); away = h.away; kinds = h.kinds }

same_turn : (world : World) (n : ℕ) (s : State) (t : CState) → Same world s t → Same world (record s { turns = n }) (record t { turns = n })
same_turn world n s t h = record { output = h.output; input = h.input; turns = refl; size = h.size; one_place = h.one_place; blocks = h.blocks; globals = h.globals }

-- One function ------------------------------------------------------------------------------

module _ (p : List Fun) (program : List ModuleTree) (m : ModuleTree) (linked : Linked program m) (f : FunctionTree) (g : Fun) (tr : TrFunction m f g) where
  -- an iteration's end is the call's end
  abbrev iterated : ℕ → Flow → Answer
  iterated b2 flow = answer (again (run p b2) (names_of g) tr.label tr.body flow)

  -- a call where so many turns are left
  abbrev at_turns : ℕ → Frame → ℕ → CState → Answer
  at_turns b2 frame k t = answer (c.take_from k t (λ t1. again (run p b2) (names_of g) tr.label tr.body (run p b2 (names_of g) tr.body frame t1)))

  body_ends : (lower : Lower) (b2 n : ℕ) (b : Base) (s : State) (o : Outcome Value) (flow : Flow) → s.turns ≡ suc n → b.state ≡ record s { turns = n } → At (variables_of g) p lower back Obj done b o flow → Called b.world s o (iterated b2 flow)
  body_ends lower b2 n b s (src.Gives v s1) flow e is h =
      record { later = h.later; cell = h.cell; t = h.t; is = ap (iterated b2) h.is; here = h.here; grows = h.grows; frozen = frozen_turn b.world n s s1 e (subst (λ x. Frozen b.world x s1) is h.frozen); same = h.same }
  body_ends lower b2 n b s (src.Escapes x v s1) flow e is h =
      record { later = h.later; w = h.w; j = h.j; exit = h.exit; t = h.t; is = ap (iterated b2) h.is; means = h.means; grows = h.moved.grows; frozen = frozen_turn b.world n s s1 e (subst (λ y. Frozen b.world y s1) is h.moved.frozen); same = h.same }
  body_ends lower b2 n b s (src.Raises code text s1) flow e is h = record { later = h.later; t = h.t; is = ap (iterated b2) h.is; same = h.same }
  body_ends lower b2 n b s (src.Spends s1) flow e is h = record { later = h.later; t = h.t; is = ap (iterated b2) h.is; same = h.same }

  -- calls in the body find fewer turns
  entered : (limit b b2 : ℕ) → CallsDo p (run p b2) program (source.run program b) limit → (k : ℕ) (env : Environment) (frame : Frame) (world : World) (s : State) (t : CState) → s.turns ≡ k → k ≤ suc limit → Scoped (variables_of g) world frame (names g.params) (scope_of f.params g.params) env → Same world s t → Called world s (take_from k s (λ s1. source.run program (suc b) m f.body env s1)) (at_turns (suc b2) frame k t)
  entered limit b b2 calls zero env frame world s t e low scoped same = record { later = world; t = t; is = refl; same = same }
  entered limit b b2 calls (suc k) env frame world s t e low scoped same =
      let s1 : State = record s { turns = k } in
      let t1 : CState = record t { turns = k } in
      let base : Base = record { live = names g.params; frame = frame; world = world; state = s1 } in
      let vars = variables_of g in
      let scope = scope_of f.params g.params in
      let lower = run p b2 in
      let lo = source.run program b in
      let fewer : k ≤ limit = omega (arith, low) in
      let body = sim vars p lower program m linked scope lo limit calls (Sequence (more f.body none)) Obj base back tr.body done env t1 tr.translated tt (record { scoped = scoped; same = same_turn world k s t same; turns = fewer }) in
      body_ends lower (suc b2) k base s (ev program m lo f.body env s1) (exec p lower (names_of g) tr.body frame t1) e refl
      (subst (λ o. At vars p lower back Obj done base o (exec p lower (names_of g) tr.body frame t1)) (one_part program m lo f.body Unspecified env s1) body)

  -- the call enters the function's loop
  enters : (b2 : ℕ) (n : Name) (cs : List Cell) (s : State) (t : CState) → fun_named p n ≡ Some g → s.turns ≡ t.turns → enter (run p b2) (fun_named p n) cs t ≡ at_turns b2 (entry g cs) s.turns t
  enters b2 n cs s t at e =
      ap (λ x. enter (run p b2) x cs t) at ∙ ap (λ x. answer (looped (run p b2) (names_of g) x (entry g cs) t)) tr.looped ∙ ap (λ k. at_turns b2 (entry g cs) k t) (sym e)

-- All functions -----------------------------------------------------------------------------

-- each function of the program is found, and what its module calls is there
module _ (p : List Fun) (program : List ModuleTree) (finds : (c : Callee) (q : Procedure) → procedure_of program (Some c) ≡ Some q → Found p (c_name_of c) (TrFunction q.home q.function)) (links : (c : Callee) (q : Procedure) → procedure_of program (Some c) ≡ Some q → Linked program q.home) where
  function_does : (limit b b2 : ℕ) → CallsDo p (run p b2) program (source.run program b) limit → (c : Callee) (q : Procedure) → Linked program q.home → Found p (c_name_of c) (TrFunction q.home q.function) → (vs : List Value) (cs : List Cell) (world : World) (s : State) (t : CState) → Words world vs cs → length vs ≡ length q.function.params → Same world s t → s.turns ≤ suc limit → Answered world s Obj (take_turn s (λ s1. source.run program (suc b) q.home q.function.body (bound q.function.params vs []) s1)) (enter (run p (suc b2)) (fun_named p (c_name_of c)) cs t)
  function_does limit b b2 calls c q linked h vs cs world s t words many same low =
      let m = q.home in
      let f = q.function in
      let g = h.g in
      let tr = h.is in
      let env = bound f.params vs [] in
      let o = take_turn s (λ s1. source.run program (suc b) m f.body env s1) in
      let scoped = parameters (hide world) f.params g.params g.locals (map (λ v. blank v.ty) g.locals) (words_hidden world words) many tr.params h.distinct in
      let runs = entered p program m linked f g tr limit b b2 calls s.turns env (entry g cs) (hide world) s t refl low scoped (same_hidden world s t same) in
      subst (λ a. Answered world s Obj o a) (sym (enters p program m linked f g tr (suc b2) (c_name_of c) cs s t h.at same.turns)) (from_call world s o (at_turns p program m linked f g tr (suc b2) (entry g cs) s.turns t) runs)

  -- where no turn is left
  spent : (b b2 : ℕ) (c : Callee) (q : Procedure) → Linked program q.home → Found p (c_name_of c) (TrFunction q.home q.function) → (k : ℕ) (env : Environment) (cs : List Cell) (world : World) (s : State) (t : CState) → s.turns ≡ k → Same world s t → k ≤ 0 → Answered world s Obj (take_from k s (λ s1. source.run program b q.home q.function.body env s1)) (enter (run p b2) (fun_named p (c_name_of c)) cs t)
  spent b b2 c q linked h zero env cs world s t e same low =
      let f = q.function in
      record { later = world; t = t; is = enters p program q.home linked f h.g h.is b2 (c_name_of c) cs s t h.at same.turns ∙ ap (λ k. at_turns p program q.home linked f h.g h.is b2 (entry h.g cs) k t) e; same = same }
  spent b b2 c q linked h (suc k) env cs world s t e same low = absurd (omega arith)

  -- the bounds are free: each is at least the turns left
  pub functions_do : (limit b b2 : ℕ) → limit ≤ b → limit ≤ b2 → CallsDo p (run p b2) program (source.run program b) limit
  functions_do zero b b2 low low2 c q at vs cs world s t words many same turns = spent b b2 c q (links c q at) (finds c q at) s.turns (bound q.function.params vs []) cs world s t refl same turns
  functions_do (suc limit) zero b2 low low2 c q at vs cs world s t words many same turns = absurd (omega arith)
  functions_do (suc limit) (suc b) zero low low2 c q at vs cs world s t words many same turns = absurd (omega arith)
  functions_do (suc limit) (suc b) (suc b2) low low2 c q at vs cs world s t words many same turns =
      let below : limit ≤ b = omega (arith, low) in
      let below2 : limit ≤ b2 = omega (arith, low2) in
      function_does limit b b2 (λ c1 q1 at1 vs1 cs1 world1 s1 t1 words1 many1 same1 turns1. functions_do limit b b2 below below2 c1 q1 at1 vs1 cs1 world1 s1 t1 words1 many1 same1 turns1) c q (links c q at) (finds c q at) vs cs world s t words many same turns
