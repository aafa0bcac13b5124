-- The walk over a form, replacement by replacement.
use Rattle.std.proofs.Common.{◌≡◌, ℕ, ◌≤◌, ◌<◌, nat_le, Bool, true, false, if◌then◌else◌, List, Result, Ok, Err, refl, sym, ap, ◌∙◌, subst, arith, inl, inr}
use Rattle.std.proofs.lemmas.Bool.{le-leb}
use Rattle.std.proofs.lemmas.Bool.Decides.{leb_tells}
use Rattle.scheme_data.specs.declared.datum.Place.{Place}
use Rattle.scheme_data.specs.declared.datum.Datum.{Datum}
use Rattle.scheme_data.specs.declared.datum.LimitKind.TheVariants as limit
use Rattle.scheme_data.specs.Forms.{Form, form, form_place}
use Rattle.syntax_rules.specs.Trees.{Macro}
use Rattle.core_forms.specs.Scope.{Marked}
use Rattle.core_forms.specs.declared.core_form.CoreExpr.{CoreExpr}
use Rattle.core_forms.specs.declared.counting.Counts.{Counts}
use Rattle.core_forms.specs.declared.words.Keyword.TheVariants as key
use Rattle.core_forms.specs.declared.error.ExpandErr.{ExpandErr}
use Rattle.core_forms.specs.declared.error.ExpandErr.TheVariants as fault
use Rattle.core_forms.specs.declared.work.Open.{Open}
use Rattle.core_forms.specs.declared.work.Made.{Made}
use Rattle.core_forms.specs.declared.work.Made.TheVariants as made_form
use Rattle.core_forms.specs.declared.work.Turned.{Turned}
use Rattle.core_forms.specs.declared.work.Turned.TheVariants as turned
use Rattle.core_forms.specs.Mid.{Mid, raw, lambda_form, mid_nesting}
use Rattle.core_forms.specs.Table.{Turn, becomes, refuses, core_turn}
use Rattle.core_forms.specs.Bodies as bodies
use Rattle.core_forms.specs.Bodies.{again, stuck, is_core, is_plain, settled, Look, instead, of_variable, of_function, expression, breach, look, body_turn, variable_at}
use Rattle.core_forms.specs.Rewriting.{Progress, still, moves, stops, moved, raw_turn, lambda_form_turn, turn, step, Reaches, here, onto, StopsAt, Halts, Walked}
use Rattle.core_forms.specs.Code.{data_of, Refusing}
use Rattle.core_forms.specs.Working.{open_of, Makes, MakesAs, TurnsAs}
use Rattle.expansion_steps.specs.declared.looking.Settled.{Settled}
use Rattle.expansion_steps.specs.declared.looking.Settled.TheVariants as value
use Rattle.expansion_steps.specs.Steps.{Settles, is_other, IsLambda, IsOther, IsStuck, SettlesAs}
use Rattle.expander.specs.Walks.{IsMade, MakesNone, MadeFrom, LaterWalked, TurnWalked, MadeWalked, Nests}
use Rattle.expander.proofs.MidSteps.{onward}
use Rattle.expander.proofs.PartWalks.{walked_more}

pub fits : (room : ℕ) (n : Counts) (m : Mid) → mid_nesting m ≤ room → moved room (becomes n m) ≡ moves n m
fits room n m h = ap (λ (b : Bool). if b then moves n m else stops (fault.Limit limit.Depth)) (le-leb (mid_nesting m) room h)

pub too_deep : (room : ℕ) (n : Counts) (m : Mid) → room < mid_nesting m → moved room (becomes n m) ≡ stops (fault.Limit limit.Depth)
too_deep room n m h =
    let e : nat_le (mid_nesting m) room ≡ false = elim (leb_tells (mid_nesting m) room) [ inl y ↦ absurd (omega (arith, y.1)) | inr y ↦ y.0 ] in
    ap (λ (b : Bool). if b then moves n m else stops (fault.Limit limit.Depth)) e

-- Behind one replacement ----------------------------------------------------------------

pub later : (ks : List Macro) (room : ℕ) (s : List Marked) (n : Counts) (m : Mid) (p : Progress Mid) (r : Result CoreExpr ExpandErr) (after : Counts)
    → step ks room s n m ≡ p → LaterWalked ks room s p r after → Walked ks room s n m r after
later ks room s n m still r after e w = absurd w
later ks room s n m (moves k b) r after e w = walked_more ks room s n k after m b r (onto e here) w
later ks room s n m (stops f) (Ok c) after e w = absurd w
later ks room s n m (stops f) (Err (fault.BadRules p)) after e w = record { counts = n; form = m; reaches = here; stop = e ∙ ap stops (sym w) }
later ks room s n m (stops f) (Err (fault.NoRule p)) after e w = record { counts = n; form = m; reaches = here; stop = e ∙ ap stops (sym w) }
later ks room s n m (stops f) (Err (fault.Form p)) after e w = record { counts = n; form = m; reaches = here; stop = e ∙ ap stops (sym w) }
later ks room s n m (stops f) (Err (fault.Limit k)) after e w = record { counts = n; form = m; reaches = here; stop = e ∙ ap stops (sym w) }
later ks room s n m (stops f) (Err fault.Memory) after e w = tt

pub turn_fits : (ks : List Macro) (room : ℕ) (s : List Marked) (n : Counts) (m : Mid) (r : Result CoreExpr ExpandErr) (after : Counts)
    → mid_nesting m ≤ room → Walked ks room s n m r after → TurnWalked ks room s (becomes n m) r after
turn_fits ks room s n m r after h w = subst (λ (p : Progress Mid). LaterWalked ks room s p r after) (sym (fits room n m h)) w

pub turn_deep : (ks : List Macro) (room : ℕ) (s : List Marked) (n : Counts) (m : Mid) (after : Counts)
    → room < mid_nesting m → TurnWalked ks room s (becomes n m) (Err (fault.Limit limit.Depth)) after
turn_deep ks room s n m after h = subst (λ (p : Progress Mid). LaterWalked ks room s p (Err (fault.Limit limit.Depth)) after) (sym (too_deep room n m h)) refl

not_still : (room : ℕ) (b : Bool) (n : Counts) (m : Mid) → still ≡ (if b then moves n m else stops (fault.Limit limit.Depth)) → ⊥
not_still room true n m e = absurd (cc)
not_still room false n m e = absurd (cc)

pub memory_turn : (ks : List Macro) (room : ℕ) (s : List Marked) (p : Progress Mid) (n : Counts) (m : Mid) (after : Counts) → p ≡ moved room (becomes n m) → LaterWalked ks room s p (Err fault.Memory) after
memory_turn ks room s still n m after e = absurd (not_still room (nat_le (mid_nesting m) room) n m e)
memory_turn ks room s (moves k b) n m after e = tt
memory_turn ks room s (stops f) n m after e = tt

-- Core forms ----------------------------------------------------------------------------

pub made_nests : (t : Turn) (m : Made) (k : Counts) → Makes t m k → Nests m
made_nests t (made_form.Leaf c) k h = tt
made_nests t (made_form.Constant at d) k h = tt
made_nests t (made_form.Quoted at d) k h = tt
made_nests t (made_form.Node o) k h = h.nests

pub from_nests : (ks : List Macro) (s : List Marked) (n : Counts) (a : Mid) (m : Made) (k : Counts) → IsMade ks s n a m k → Nests m
from_nests ks s n a m k i = made_nests (turn ks s i.counts i.last) m k i.makes

pub made_walked : (ks : List Macro) (room : ℕ) (s : List Marked) (n : Counts) (a : Mid) (m : Made) (k : Counts) (r : Result CoreExpr ExpandErr) (after : Counts)
    → IsMade ks s n a m k → MadeWalked ks room s k m r after → Walked ks room s n a r after
made_walked ks room s n a m k r after i w =
    walked_more ks room s n i.counts after a i.last r (i.path room) (later ks room s i.counts i.last (moved room (turn ks s i.counts i.last)) r after (i.turned room) (w (turn ks s i.counts i.last) i.makes))

none_stops : (ks : List Macro) (room : ℕ) (s : List Marked) (n : Counts) (a : Mid) (f : ExpandErr) → MakesNone ks s n a f → StopsAt Mid (step ks room s) n a f
none_stops ks room s n a f x = record { counts = x.counts; form = x.last; reaches = x.path room; stop = x.turned room ∙ ap (moved room) x.is }

pub none_walked : (ks : List Macro) (room : ℕ) (s : List Marked) (n : Counts) (a : Mid) (f : ExpandErr) → Refusing (MakesNone ks s n a) f → Halts Mid (step ks room s) n a f
none_walked ks room s n a (fault.BadRules p) x = none_stops ks room s n a _ x
none_walked ks room s n a (fault.NoRule p) x = none_stops ks room s n a _ x
none_walked ks room s n a (fault.Form p) x = none_stops ks room s n a _ x
none_walked ks room s n a (fault.Limit k) x = none_stops ks room s n a _ x
none_walked ks room s n a fault.Memory x = tt

-- a form that is turned again and again
module _ (ks : List Macro) (s : List Marked) (n : Counts) (a : Mid) (m : Counts) (d : Form) (p : (room : ℕ) → Reaches Mid (step ks room s) n a m (raw d)) where
  pub raw_again : (t : Turned) (e : Open) (k : Counts) → t ≡ turned.Again e → TurnsAs (raw_turn ks s m d) (Ok t) k → (room : ℕ) → Reaches Mid (step ks room s) n a k (raw (open_of e))
  raw_again t e k i h room =
      let g : raw_turn ks s m d ≡ becomes k (raw (open_of e)) = subst (λ (t : Turned). TurnsAs (raw_turn ks s m d) (Ok t) k) i h in
      onward (p room) (onto (ap (moved room) g ∙ fits room k (raw (open_of e)) (omega arith)) here)

  pub raw_made : (t : Turned) (o : Made) (k : Counts) → t ≡ turned.Core o → TurnsAs (raw_turn ks s m d) (Ok t) k → IsMade ks s n a o k
  raw_made t o k i h = record {
    counts = m;
    last = raw d;
    path = p;
    turned = λ room. refl;
    makes = subst (λ (t : Turned). TurnsAs (raw_turn ks s m d) (Ok t) k) i h;
  }

  raw_none : (f : ExpandErr) → raw_turn ks s m d ≡ refuses f → MakesNone ks s n a f
  raw_none f h = record { counts = m; last = raw d; path = p; turned = λ room. refl; is = h }

  pub raw_refused : (f : ExpandErr) → Refusing (λ f. raw_turn ks s m d ≡ refuses f) f → Refusing (MakesNone ks s n a) f
  raw_refused (fault.BadRules p) x = raw_none _ x
  raw_refused (fault.NoRule p) x = raw_none _ x
  raw_refused (fault.Form p) x = raw_none _ x
  raw_refused (fault.Limit k) x = raw_none _ x
  raw_refused fault.Memory x = tt

refusing : {P Q : ExpandErr → Type 0} (f : ExpandErr) → ((f : ExpandErr) → P f → Q f) → Refusing P f → Refusing Q f
refusing (fault.BadRules p) t x = t _ x
refusing (fault.NoRule p) t x = t _ x
refusing (fault.Form p) t x = t _ x
refusing (fault.Limit k) t x = t _ x
refusing fault.Memory t x = tt

-- a value of a `letrec`
module _ (ks : List Macro) (s : List Marked) (at : Place) where
  settles_reach : (room : ℕ) {n k : Counts} {d e : Form} → Settles ks s n d k e → Reaches Mid (step ks room s) n (lambda_form at d) k (lambda_form at e)
  settles_reach room Settles.here = here
  settles_reach room {n} {k} {d} (Settles.onto {m = m} {e = e} g r) =
      onto (ap (λ v. moved room (lambda_form_turn n at d v)) g ∙ fits room m (lambda_form at e) (omega arith)) (settles_reach room r)

  pub lambda_made : (n : Counts) (d : Form) (k : Counts) (p : Place) (ds : List Datum) (o : Made) → IsLambda ks s n d k p ds → Makes (core_turn k p key.Lambda (data_of ds)) o k
      → IsMade ks s n (lambda_form at d) o k
  lambda_made n d k p ds o i h =
      let e : core_turn k p key.Lambda (data_of ds) ≡ turn ks s k (lambda_form at i.last) =
      ap (λ (q : Place). core_turn k q key.Lambda (data_of ds)) (sym i.place) ∙ ap (core_turn k (form_place i.last) key.Lambda) (sym i.parts) ∙ ap (lambda_form_turn k at i.last) (sym i.is) in
      record {
        counts = k;
        last = lambda_form at i.last;
        path = λ room. settles_reach room i.path;
        turned = λ room. refl;
        makes = subst (λ (t : Turn). Makes t o k) e h;
      }

  lambda_none : (n : Counts) (d : Form) (k : Counts) (last : Form) (f : ExpandErr) → Settles ks s n d k last → lambda_form_turn k at last (settled ks s k last) ≡ refuses f → MakesNone ks s n (lambda_form at d) f
  lambda_none n d k last f q h = record { counts = k; last = lambda_form at last; path = λ room. settles_reach room q; turned = λ room. refl; is = h }

  pub lambda_refused : (n : Counts) (d : Form) (k : Counts) (p : Place) (ds : List Datum) (f : ExpandErr) → IsLambda ks s n d k p ds → Refusing (λ f. core_turn k p key.Lambda (data_of ds) ≡ refuses f) f
      → Refusing (MakesNone ks s n (lambda_form at d)) f
  lambda_refused n d k p ds f i h =
      let e : turn ks s k (lambda_form at i.last) ≡ core_turn k p key.Lambda (data_of ds) =
      ap (lambda_form_turn k at i.last) i.is ∙ ap (core_turn k (form_place i.last) key.Lambda) i.parts ∙ ap (λ (q : Place). core_turn k q key.Lambda (data_of ds)) i.place in
      refusing f (λ f h. lambda_none n d k i.last f i.path (e ∙ h)) h

  other_turn : (k : Counts) (d : Form) (v : bodies.Settled) → is_other ks s v ≡ true → lambda_form_turn k at d v ≡ refuses (fault.Form at)
  other_turn k d (again m e) h = absurd (cc)
  other_turn k d (stuck f) h = absurd (cc)
  other_turn k d (is_core key.Lambda) h = absurd (cc)
  other_turn k d (is_core key.Quote) h = refl
  other_turn k d (is_core key.If) h = refl
  other_turn k d (is_core key.Set) h = refl
  other_turn k d (is_core key.Begin) h = refl
  other_turn k d (is_core key.Let) h = refl
  other_turn k d (is_core key.Letrec) h = refl
  other_turn k d (is_core key.BindExit) h = refl
  other_turn k d (is_core key.UnwindProtect) h = refl
  other_turn k d (is_core key.LetStar) h = refl
  other_turn k d (is_core key.Cond) h = refl
  other_turn k d (is_core key.Case) h = refl
  other_turn k d (is_core key.Clauses) h = refl
  other_turn k d (is_core key.And) h = refl
  other_turn k d (is_core key.Or) h = refl
  other_turn k d (is_core key.When) h = refl
  other_turn k d (is_core key.Unless) h = refl
  other_turn k d (is_core key.Do) h = refl
  other_turn k d (is_core key.Define) h = refl
  other_turn k d (is_core key.DefineInline) h = refl
  other_turn k d (is_core key.DefineSyntax) h = refl
  other_turn k d is_plain h = refl

  pub other_refused : (n : Counts) (d : Form) (k : Counts) (last : Form) → IsOther ks s n d k last → MakesNone ks s n (lambda_form at d) (fault.Form at)
  other_refused n d k last i = lambda_none n d k last (fault.Form at) i.path (other_turn k last (settled ks s k last) i.is)

  stuck_refused : (n : Counts) (d : Form) (k : Counts) (last : Form) (f : ExpandErr) → IsStuck ks s n d k last f → MakesNone ks s n (lambda_form at d) f
  stuck_refused n d k last f i = lambda_none n d k last f i.path (ap (lambda_form_turn k at last) i.is)

  pub stuck_none : (n : Counts) (d : Form) (k : Counts) (last : Form) (f : ExpandErr) → IsStuck ks s n d k last f → Refusing (MakesNone ks s n (lambda_form at d)) f
  stuck_none n d k last (fault.BadRules p) x = stuck_refused n d k last _ x
  stuck_none n d k last (fault.NoRule p) x = stuck_refused n d k last _ x
  stuck_none n d k last (fault.Form p) x = stuck_refused n d k last _ x
  stuck_none n d k last (fault.Limit q) x = stuck_refused n d k last _ x
  stuck_none n d k last fault.Memory x = tt

  pub settle_none : (n : Counts) (d : Form) (k : Counts) (f : ExpandErr) → SettlesAs ks s n d (Err f) k → Refusing (MakesNone ks s n (lambda_form at d)) f
  settle_none n d k (fault.BadRules p) x = absurd x
  settle_none n d k (fault.NoRule p) x = absurd x
  settle_none n d k (fault.Form p) x = stuck_refused n d k x.last _ x.stuck
  settle_none n d k (fault.Limit q) x = absurd x
  settle_none n d k fault.Memory x = tt

  made_by : (n : Counts) (d : Form) (k : Counts) (p : Place) (ds : List Datum) (r : Result Made ExpandErr) → IsLambda ks s n d k p ds → MakesAs (core_turn k p key.Lambda (data_of ds)) r k
      → MadeFrom ks s n (lambda_form at d) r k
  made_by n d k p ds (Ok o) i h = lambda_made n d k p ds o i h
  made_by n d k p ds (Err f) i h = lambda_refused n d k p ds f i h

  pub lambda_from : (n : Counts) (d : Form) (k : Counts) (t : Settled) (p : Place) (ds : List Datum) (r : Result Made ExpandErr) → t ≡ value.Lambda p ds → SettlesAs ks s n d (Ok t) k
      → MakesAs (core_turn k p key.Lambda (data_of ds)) r k → MadeFrom ks s n (lambda_form at d) r k
  lambda_from n d k t p ds r i h w = made_by n d k p ds r (subst (λ (t : Settled). SettlesAs ks s n d (Ok t) k) i h) w

  pub other_from : (n : Counts) (d : Form) (k : Counts) (t : Settled) (o : Open) → t ≡ value.Other o → SettlesAs ks s n d (Ok t) k → MakesNone ks s n (lambda_form at d) (fault.Form at)
  other_from n d k t o i h = other_refused n d k (open_of o) (subst (λ (t : Settled). SettlesAs ks s n d (Ok t) k) i h)

  pub stuck_from : (n : Counts) (d : Form) (k : Counts) (t : Settled) (e : Datum) (f : ExpandErr) → t ≡ value.Stuck e f → SettlesAs ks s n d (Ok t) k → Refusing (MakesNone ks s n (lambda_form at d)) f
  stuck_from n d k t e f i h = let left = subst (λ (t : Settled). SettlesAs ks s n d (Ok t) k) i h in stuck_none n d k (form e) f left.stuck
