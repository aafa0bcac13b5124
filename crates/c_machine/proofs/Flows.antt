-- How the ends of statements compose.
use Rattle.std.proofs.Common.{◌≡◌, ℕ, suc, Bool, true, false, List, ◌∷◌, refl, ◌∙◌, if◌then◌else◌}
use Rattle.std.specs.Prelude.{◌==◌, pos, negsuc}
use Rattle.c_tree.specs.declared.tree.CExpr.{CExpr}
use Rattle.c_tree.specs.declared.tree.CExpr.TheVariants as expr
use Rattle.c_tree.specs.declared.tree.CCall.{CCall}
use Rattle.c_tree.specs.Code.{Code, assign, call, return, test, Fun}
use Rattle.c_meaning.specs.State.{Cell, AWord, ANumber, State, Frame, Answer, Has, Leaves, Stops, Ends, Faults, Flow, Next, Goes, Returns, Escapes, Raises, Spends, Fails, with, chosen, after, answer}
use Rattle.c_meaning.specs.Execution.{Names, position_of, again, run}
use Rattle.c_machine.specs.declared.program.Target.TheVariants as target
use Rattle.c_machine.proofs.Means.{Shape, Straight, Looped, Level, eval_at, exec_at, wrap, flows, delivers}

-- Ends --------------------------------------------------------------------------------------

-- a flow that ends the run
abbrev pub IsStop : Flow → Type 0
IsStop (Next f s) = ⊥
IsStop (Goes l f s) = ⊥
IsStop (Returns c s) = ⊥
IsStop (Escapes x w f s) = ⊥
IsStop (Raises c t s) = Unit {0}
IsStop (Spends s) = Unit {0}
IsStop (Fails k s) = Unit {0}

pub stop_with : (x : Flow) (f : Frame) (next : Cell → State → Flow) → IsStop x → with (answer x) f next ≡ x
stop_with (Next f s) g next h = absurd h
stop_with (Goes l f s) g next h = absurd h
stop_with (Returns c s) g next h = absurd h
stop_with (Escapes x w f s) g next h = absurd h
stop_with (Raises c t s) g next h = refl
stop_with (Spends s) g next h = refl
stop_with (Fails k s) g next h = refl

stop_again : (p : List Fun) (b : ℕ) (names : Names) (l : List ℕ) (c : Code) (x : Flow) → IsStop x → again (run p b) names l c x ≡ x
stop_again p b names l c (Next f s) h = absurd h
stop_again p b names l c (Goes m f s) h = absurd h
stop_again p b names l c (Returns d s) h = absurd h
stop_again p b names l c (Escapes x w f s) h = absurd h
stop_again p b names l c (Raises d t s) h = refl
stop_again p b names l c (Spends s) h = refl
stop_again p b names l c (Fails k s) h = refl

pub stop_wrap : (p : List Fun) (b : ℕ) (names : Names) (shape : Shape) (x : Flow) → IsStop x → wrap p b names shape x ≡ x
stop_wrap p b names (Straight c) x h = refl
stop_wrap p b names (Looped l c) x h = stop_again p (suc b) names l c x h

pub wrap_returns : (p : List Fun) (b : ℕ) (names : Names) (shape : Shape) (c : Cell) (s : State) → wrap p b names shape (Returns c s) ≡ Returns c s
wrap_returns p b names (Straight d) c s = refl
wrap_returns p b names (Looped l d) c s = refl

-- Rests -------------------------------------------------------------------------------------

pub after_next : (x : Flow) → after x (λ f s. Next f s) ≡ x
after_next (Next f s) = refl
after_next (Goes l f s) = refl
after_next (Returns c s) = refl
after_next (Escapes x w f s) = refl
after_next (Raises c t s) = refl
after_next (Spends s) = refl
after_next (Fails k s) = refl

after_after : (x : Flow) (g h : Frame → State → Flow) → after (after x g) h ≡ after x (λ f s. after (g f s) h)
after_after (Next f s) g h = refl
after_after (Goes l f s) g h = refl
after_after (Returns c s) g h = refl
after_after (Escapes x w f s) g h = refl
after_after (Raises c t s) g h = refl
after_after (Spends s) g h = refl
after_after (Fails k s) g h = refl

after_with : (a : Answer) (f : Frame) (next : Cell → State → Flow) (g : Frame → State → Flow) → after (with a f next) g ≡ with a f (λ c s. after (next c s) g)
after_with (Has c s) f next g = refl
after_with (Leaves x w s) f next g = refl
after_with (Stops c t s) f next g = refl
after_with (Ends s) f next g = refl
after_with (Faults k s) f next g = refl

after_if : (b : Bool) (x y : Flow) (g : Frame → State → Flow) → after (if b then x else y) g ≡ (if b then after x g else after y g)
after_if true x y g = refl
after_if false x y g = refl

after_chosen : (c : Cell) (s : State) (x y : Flow) (g : Frame → State → Flow) → after (chosen c s x y) g ≡ chosen c s (after x g) (after y g)
after_chosen (ANumber (pos n)) s x y g = after_if (n == 0) y x g
after_chosen (ANumber (negsuc n)) s x y g = refl
after_chosen (AWord w) s x y g = refl

with_same : (a : Answer) (f : Frame) (next other : Cell → State → Flow) → ((c : Cell) (s : State) → next c s ≡ other c s) → with a f next ≡ with a f other
with_same (Has c s) f next other h = h c s
with_same (Leaves x w s) f next other h = refl
with_same (Stops c t s) f next other h = refl
with_same (Ends s) f next other h = refl
with_same (Faults k s) f next other h = refl

-- Statements --------------------------------------------------------------------------------

-- the value of a statement is delivered to where what is left stands
module _ (level : Level) (p : List Fun) (b : ℕ) (names : Names) (cs : List Code) (fr : Frame) (s : State) where
  abbrev value : CExpr → Answer
  value e = eval_at level p b names e fr s

  abbrev rest_of : Frame → State → Flow
  rest_of f t = flows level p b names cs f t

  pub assign_flow : (x : List ℕ) (e : CExpr) (rest : Code) (other : List Code) → flows level p b names (assign x e rest ∷ cs) fr s ≡ with (value e) fr (delivers level p b names (target.Local (position_of x names)) (rest ∷ cs) other fr)
  assign_flow x e rest other = after_with (value e) fr _ rest_of

  pub call_flow : (c : CCall) (rest : Code) (other : List Code) → flows level p b names (call c rest ∷ cs) fr s ≡ with (value (expr.Call c)) fr (delivers level p b names target.Nowhere (rest ∷ cs) other fr)
  call_flow c rest other = after_with (value (expr.Call c)) fr _ rest_of

  pub return_flow : (e : CExpr) (rest : Code) (other : List Code) → flows level p b names (return e rest ∷ cs) fr s ≡ with (value e) fr (delivers level p b names target.Caller (rest ∷ cs) other fr)
  return_flow e rest other = after_with (value e) fr _ rest_of

  pub test_flow : (e : CExpr) (a c rest : Code) (at : ℕ) → flows level p b names (test e a c rest ∷ cs) fr s ≡ with (value e) fr (delivers level p b names (target.Test at) (a ∷ rest ∷ cs) (c ∷ rest ∷ cs) fr)
  test_flow e a c rest at =
      let first : State → Flow = λ t. exec_at level p b names a fr t in
      let second : State → Flow = λ t. exec_at level p b names c fr t in
      let next : Frame → State → Flow = λ f t. exec_at level p b names rest f t in
      after_with (value e) fr (λ v t. after (chosen v t (first t) (second t)) next) rest_of
      ∙ with_same (value e) fr (λ v t. after (after (chosen v t (first t) (second t)) next) rest_of) (delivers level p b names (target.Test at) (a ∷ rest ∷ cs) (c ∷ rest ∷ cs) fr) (λ v t.
      after_after (chosen v t (first t) (second t)) next rest_of ∙ after_chosen v t (first t) (second t) (λ f u. after (next f u) rest_of)
      )
