-- The state behind a piece, as the tables tell it.
use Rattle.std.proofs.Common.{◌≡◌, ℕ, List, [], ◌∷◌, ◌++◌, refl, subst}
use Rattle.std.specs.List.{list_any}
use Rattle.c_meaning.specs.Breaches.{Scope, Open, Room, has, is_function, with_label}
use Rattle.c_check.specs.Agreeing.{SameState, IsNoted}
use Rattle.c_check.specs.Walks.{Frame, State, goes_on}
use Rattle.c_check.proofs.Agreeing.{remade, same-self}

abbrev pub at : Scope → List Frame → List (List ℕ) → State
at s fs h = record { scope = s; frames = fs; ahead = h }

pub same_states : (s : Scope) (l1 l2 c1 c2 : List (List ℕ)) (b1 b2 : List Open) (r1 r2 : Room) (f1 f2 : List Frame) (h1 h2 : List (List ℕ))
    → ((l : List ℕ) → has l1 l ≡ has l2 l) → ((name : List ℕ) → has c1 name ≡ has c2 name) → list_any is_function c1 ≡ list_any is_function c2 → b1 ≡ b2 → r1 ≡ r2 → f1 ≡ f2 → h1 ≡ h2
    → SameState (at (record s { labels = l1; called = c1; blocks = b1; room = r1 }) f1 h1) (at (record s { labels = l2; called = c2; blocks = b2; room = r2 }) f2 h2)
same_states s l1 l2 c1 c2 b1 b2 r1 r2 f1 f2 h1 h2 l c a b r f h = record {
  scope = remade s s (same-self s) l1 l2 c1 c2 b1 b2 r1 r2 l c a b r;
  frames = f;
  ahead = h;
}

pub labelled : (m o : State) (l : List ℕ) (labels : List (List ℕ)) → m ≡ o → IsNoted m.scope.labels (l ∷ []) labels
    → SameState (at (record m.scope { labels = labels }) m.frames m.ahead) (goes_on (with_label l o.scope) o)
labelled m o l labels is noted =
    subst (λ q. SameState (at (record m.scope { labels = labels }) m.frames m.ahead) (goes_on (with_label l q.scope) q)) is
    (same_states m.scope labels (m.scope.labels ++ l ∷ []) m.scope.called m.scope.called m.scope.blocks m.scope.blocks m.scope.room m.scope.room m.frames m.frames m.ahead m.ahead
    noted.found (λ name. refl) refl refl refl refl refl)
