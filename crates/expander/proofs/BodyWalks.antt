-- The walk over the forms of a body.
use Rattle.std.proofs.Common.{◌≡◌, ℕ, List, [], ◌∷◌, ◌++◌, Result, Ok, Err, refl, sym, ap, ◌∙◌, subst, arith}
use Rattle.scheme_data.specs.declared.datum.Place.{Place}
use Rattle.scheme_data.specs.declared.datum.Datum.{Datum}
use Rattle.scheme_data.specs.Forms.{Form, Forms, form, end, next}
use Rattle.syntax_rules.specs.Trees.{Macro}
use Rattle.core_forms.specs.Scope.{Marked}
use Rattle.core_forms.specs.declared.core_form.CoreExpr.{CoreExpr}
use Rattle.core_forms.specs.declared.counting.Counts.{Counts}
use Rattle.core_forms.specs.declared.error.ExpandErr.{ExpandErr}
use Rattle.core_forms.specs.declared.error.ExpandErr.TheVariants as fault
use Rattle.core_forms.specs.Mid.{Mid, raw, body, Parts, none, part, rest, tree}
use Rattle.core_forms.specs.Table.{Turn}
use Rattle.core_forms.specs.Bodies.{Look, expression, breach, body_turn}
use Rattle.core_forms.specs.Rewriting.{Progress, still, moves, stops, moved, as_last, rest_progress, step, steps, Reaches, here, onto, StopsAt, Becomes, Halts, Walked}
use Rattle.core_forms.specs.Code.{data_of, Refusing}
use Rattle.expansion_steps.specs.declared.looking.Looked.{Looked}
use Rattle.expansion_steps.specs.declared.looking.Looked.TheVariants as looked
use Rattle.expansion_steps.specs.declared.looking.First.{First}
use Rattle.expansion_steps.specs.declared.looking.First.TheVariants as first
use Rattle.expansion_steps.specs.Steps.{Looks, Finds, LooksAs}
use Rattle.expander.specs.Walks.{look_at, Starts, first_look, LaterWalked, TurnWalked, SoFar, forms_left, IsNext, NextAs, OneMore}
use Rattle.expander.proofs.PartWalks.{walked_more, one_more, parts_halt, rest_halts, rest_moves}
use Rattle.expander.proofs.TurnWalks.{fits, later}

module _ (ks : List Macro) (s : List Marked) where
  pub looks_join : {n m k : Counts} {ds es fs : Forms} → Looks ks s n ds m es → Looks ks s m es k fs → Looks ks s n ds k fs
  looks_join Looks.here q = q
  looks_join (Looks.onto g r) q = Looks.onto g (looks_join r q)

  starts : (n m k : Counts) (at : Place) (ds es : Forms) (f : Form) (fs : Forms) (l : Look) → Looks ks s n ds m es → Finds ks s m es k f fs l → Starts ks s n at ds k l
  starts n m k at ds es f fs l q x = record { last = next f fs; path = looks_join q x.path; is = x.is }

  module _ (n m : Counts) (at : Place) (ds : Forms) (all : List Datum) (q : Looks ks s n ds m (data_of all)) where
    pub body_ends : all ≡ [] → Starts ks s n at ds m (breach (fault.Form at))
    body_ends e = record { last = end; path = subst (λ (all : List Datum). Looks ks s n ds m (data_of all)) e q; is = refl }

    module _ (d : Datum) (es : List Datum) (cut : all ≡ d ∷ es) where
      reached : Looks ks s n ds m (next (form d) (data_of es))
      reached = subst (λ (all : List Datum). Looks ks s n ds m (data_of all)) cut q

      pub body_instead : (t : Looked) (fs : List Datum) (k : Counts) → t ≡ looked.Instead fs → LooksAs ks s m (next (form d) (data_of es)) (Ok t) k → Looks ks s n ds k (data_of fs)
      body_instead t fs k i h = looks_join reached (subst (λ (t : Looked). LooksAs ks s m (next (form d) (data_of es)) (Ok t) k) i h)

      starts_with : (f : First) (k : Counts) → LooksAs ks s m (next (form d) (data_of es)) (Ok (looked.First f)) k → Starts ks s n at ds k (first_look f)
      starts_with (first.Stuck e fs x) k h = starts n m k at ds _ _ _ _ reached h.finds
      starts_with (first.Variable p x o fs) k h = starts n m k at ds _ _ _ _ reached h.finds
      starts_with (first.Function p f fs) k h = starts n m k at ds _ _ _ _ reached h.finds
      starts_with (first.Expression e fs) k h = starts n m k at ds _ _ _ _ reached h

      pub body_starts : (t : Looked) (f : First) (k : Counts) → t ≡ looked.First f → LooksAs ks s m (next (form d) (data_of es)) (Ok t) k → Starts ks s n at ds k (first_look f)
      body_starts t f k i h = starts_with f k (subst (λ (t : Looked). LooksAs ks s m (next (form d) (data_of es)) (Ok t) k) i h)

      pub body_refused : (f : ExpandErr) (k : Counts) → LooksAs ks s m (next (form d) (data_of es)) (Err f) k → Refusing (λ f. Starts ks s n at ds k (breach f)) f
      body_refused (fault.BadRules p) k h = absurd h
      body_refused (fault.NoRule p) k h = absurd h
      body_refused (fault.Form p) k h = starts n m k at ds _ _ _ _ reached h.finds
      body_refused (fault.Limit q) k h = absurd h
      body_refused fault.Memory k h = tt

  -- Whole bodies ------------------------------------------------------------------------

  body_reach : (room : ℕ) (at : Place) {n k : Counts} {ds es : Forms} → Looks ks s n ds k es → Reaches Mid (step ks room s) n (body at ds) k (body at es)
  body_reach room at Looks.here = here
  body_reach room at {n} (Looks.onto {m = m} {es = es} g r) = onto (ap (λ l. moved room (body_turn n at l)) g ∙ fits room m (body at es) (omega arith)) (body_reach room at r)

  body_step : (room : ℕ) (k : Counts) (at : Place) (ds : Forms) → step ks room s k (body at ds) ≡ moved room (body_turn k at (look_at ks s k at ds))
  body_step room k at end = refl
  body_step room k at (next d ds) = refl

  pub body_walked : (room : ℕ) (n : Counts) (at : Place) (ds : Forms) (k : Counts) (l : Look) (r : Result CoreExpr ExpandErr) (after : Counts) → Starts ks s n at ds k l
      → TurnWalked ks room s (body_turn k at l) r after → Walked ks room s n (body at ds) r after
  body_walked room n at ds k l r after x w = walked_more ks room s n k after (body at ds) (body at x.last) r (body_reach room at x.path)
      (later ks room s k (body at x.last) (moved room (body_turn k at l)) r after (body_step room k at x.last ∙ ap (λ l. moved room (body_turn k at l)) x.is) w)

  body_stops : (room : ℕ) (n : Counts) (at : Place) (ds : Forms) (k : Counts) (f : ExpandErr) → Starts ks s n at ds k (breach f) → StopsAt Mid (step ks room s) n (body at ds) f
  body_stops room n at ds k f x = record { counts = k; form = body at x.last; reaches = body_reach room at x.path; stop = body_step room k at x.last ∙ ap (λ l. moved room (body_turn k at l)) x.is }

  pub body_halts : (room : ℕ) (n : Counts) (at : Place) (ds : Forms) (k : Counts) (f : ExpandErr) → Refusing (λ f. Starts ks s n at ds k (breach f)) f → Halts Mid (step ks room s) n (body at ds) f
  body_halts room n at ds k (fault.BadRules p) x = body_stops room n at ds k _ x
  body_halts room n at ds k (fault.NoRule p) x = body_stops room n at ds k _ x
  body_halts room n at ds k (fault.Form p) x = body_stops room n at ds k _ x
  body_halts room n at ds k (fault.Limit q) x = body_stops room n at ds k _ x
  body_halts room n at ds k fault.Memory x = tt

  -- Sequences ---------------------------------------------------------------------------

  rest_reach : (room : ℕ) (at : Place) {n k : Counts} {ds es : Forms} → Looks ks s n ds k es → Reaches Parts (steps ks room s) n (rest at ds) k (rest at es)
  rest_reach room at Looks.here = here
  rest_reach room at {n} (Looks.onto g r) = onto (ap (rest_progress room n at) g) (rest_reach room at r)

  rest_step : (room : ℕ) (k : Counts) (at : Place) (ds : Forms) → steps ks room s k (rest at ds) ≡ rest_progress room k at (look_at ks s k at ds)
  rest_step room k at end = refl
  rest_step room k at (next d ds) = refl

  module _ (room : ℕ) (n : Counts) (whole : Parts) (at : Place) (m : Counts) (ds : Forms) (cs : List CoreExpr) (p : SoFar ks room s n whole m (rest at ds) cs) where
    module _ (k : Counts) (l : Look) (x : Starts ks s m at ds k l) where
      rest_on : SoFar ks room s n whole k (rest at x.last) cs
      rest_on = rest_moves ks room s n whole m k (rest at ds) (rest at x.last) cs p (rest_reach room at x.path)

      next_on : (left : List Datum) (c : CoreExpr) (after : Counts) (new : List CoreExpr) → IsNext ks room s (rest_progress room k at l) at left c after → new ≡ cs ++ c ∷ [] → SoFar ks room s n whole after (forms_left at left) new
      next_on left c after new i e =
          let q : SoFar ks room s n whole i.counts (part 0 [] i.mid (forms_left at left)) cs =
          rest_moves ks room s n whole k i.counts (rest at x.last) (part 0 [] i.mid (forms_left at left)) cs rest_on (onto (rest_step room k at x.last ∙ ap (rest_progress room k at) x.is ∙ i.moves-to) here) in
          one_more ks room s n whole i.counts after 0 [] i.mid (forms_left at left) cs new c q (subst (λ (r : ℕ). Becomes ks r s i.counts i.mid (tree c) after) (omega arith) i.walked) e

      pub next_halts : (left : List Datum) (f : ExpandErr) (after : Counts) → NextAs ks room s (rest_progress room k at l) at left (Err f) after → Halts Parts (steps ks room s) n whole f
      next_halts left f after h = rest_halts ks room s n whole k (rest at x.last) cs f rest_on (h k (rest at x.last) (rest_step room k at x.last ∙ ap (rest_progress room k at) x.is))

      pub next_more : (left : List Datum) (r : Result CoreExpr ExpandErr) (after : Counts) → NextAs ks room s (rest_progress room k at l) at left r after → OneMore ks room s n whole at left cs r after
      next_more left (Ok c) after i = λ new e. next_on left c after new i e
      next_more left (Err f) after h = next_halts left f after h

    rest_stops : (k : Counts) (f : ExpandErr) → Starts ks s m at ds k (breach f) → StopsAt Parts (steps ks room s) m (rest at ds) f
    rest_stops k f x = record { counts = k; form = rest at x.last; reaches = rest_reach room at x.path; stop = rest_step room k at x.last ∙ ap (rest_progress room k at) x.is }

    rest_breach : (k : Counts) (f : ExpandErr) → Refusing (λ f. Starts ks s m at ds k (breach f)) f → Halts Parts (steps ks room s) m (rest at ds) f
    rest_breach k (fault.BadRules p) x = rest_stops k _ x
    rest_breach k (fault.NoRule p) x = rest_stops k _ x
    rest_breach k (fault.Form p) x = rest_stops k _ x
    rest_breach k (fault.Limit q) x = rest_stops k _ x
    rest_breach k fault.Memory x = tt

    pub first_halts : (k : Counts) (f : ExpandErr) → Refusing (λ f. Starts ks s m at ds k (breach f)) f → Halts Parts (steps ks room s) n whole f
    first_halts k f x = rest_halts ks room s n whole m (rest at ds) cs f p (rest_breach k f x)

  part_first : (room : ℕ) (k : Counts) (ps : Parts) (m : Counts) (b : Mid) (left : Parts) (f : ExpandErr) → steps ks room s k ps ≡ moves m (part 0 [] b left) → Halts Mid (step ks room s) m b f
      → Halts Parts (steps ks room s) k ps f
  part_first room k ps m b left f e h = rest_halts ks room s k ps m (part 0 [] b left) [] f (record { done = []; shown = tt; reaches = onto e here })
      (parts_halt ks room s m (part 0 [] b left) m 0 [] b left [] f (record { done = []; shown = tt; reaches = here }) (subst (λ (r : ℕ). Halts Mid (step ks r s) m b f) (omega arith) h))

  -- Next parts --------------------------------------------------------------------------

  module _ (room : ℕ) (n : Counts) (at : Place) (after : Counts) where
    next_expression : (d : Datum) (left : List Datum) (c : CoreExpr) → Walked ks room s n (raw (form d)) (Ok c) after
        → IsNext ks room s (rest_progress room n at (expression (form d) (data_of left))) at left c after
    next_expression d [] c w = record { counts = n; mid = raw (form d); moves-to = ap as_last (fits room n (raw (form d)) (omega arith)); walked = w }
    next_expression d (f ∷ fs) c w = record { counts = n; mid = raw (form d); moves-to = refl; walked = w }

    expression_stops : (d : Form) (ds : Forms) (p : Progress Parts) (k : Counts) (ps : Parts) (f : ExpandErr) → Halts Mid (step ks room s) n (raw d) f → steps ks room s k ps ≡ p → p ≡ rest_progress room n at (expression d ds)
        → Halts Parts (steps ks room s) k ps f
    expression_stops d end p k ps f h e g = part_first room k ps n (raw d) none f (e ∙ g ∙ ap as_last (fits room n (raw d) (omega arith))) h
    expression_stops d (next f fs) p k ps x h e g = part_first room k ps n (raw d) (rest at (next f fs)) x (e ∙ g) h

    pub expression_next : (d : Datum) (left : List Datum) (r : Result CoreExpr ExpandErr) → Walked ks room s n (raw (form d)) r after
        → NextAs ks room s (rest_progress room n at (expression (form d) (data_of left))) at left r after
    expression_next d left (Ok c) w = next_expression d left c w
    expression_next d left (Err f) h = λ k ps e. expression_stops (form d) (data_of left) _ k ps f h e refl

    last_next : (p : Progress Mid) (c : CoreExpr) → LaterWalked ks room s p (Ok c) after → IsNext ks room s (as_last p) at [] c after
    last_next still c w = absurd w
    last_next (moves k b) c w = record { counts = k; mid = b; moves-to = refl; walked = w }
    last_next (stops f) c w = absurd w

    last_halts : (p : Progress Mid) (f : ExpandErr) → LaterWalked ks room s p (Err f) after → (k : Counts) (ps : Parts) → steps ks room s k ps ≡ as_last p → Halts Parts (steps ks room s) k ps f
    last_halts still f w k ps e = absurd w
    last_halts (moves m b) f w k ps e = part_first room k ps m b none f e w
    last_halts (stops g) (fault.BadRules p) w k ps e = record { counts = k; form = ps; reaches = here; stop = e ∙ ap stops (sym w) }
    last_halts (stops g) (fault.NoRule p) w k ps e = record { counts = k; form = ps; reaches = here; stop = e ∙ ap stops (sym w) }
    last_halts (stops g) (fault.Form p) w k ps e = record { counts = k; form = ps; reaches = here; stop = e ∙ ap stops (sym w) }
    last_halts (stops g) (fault.Limit q) w k ps e = record { counts = k; form = ps; reaches = here; stop = e ∙ ap stops (sym w) }
    last_halts (stops g) fault.Memory w k ps e = tt

    -- what stands behind a turn is the last part
    pub turn_next : (t : Turn) (r : Result CoreExpr ExpandErr) → TurnWalked ks room s t r after → NextAs ks room s (as_last (moved room t)) at [] r after
    turn_next t (Ok c) w = last_next (moved room t) c w
    turn_next t (Err f) w = last_halts (moved room t) f w
