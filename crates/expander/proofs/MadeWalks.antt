-- The walk over a core form.
use Rattle.std.proofs.Common.{◌≡◌, ℕ, ◌+◌, ◌≤◌, ◌-◌, max, nat_le, nat_lt, Bool, true, false, ◌&&◌, if◌then◌else◌, List, [], map, Some, Result, Ok, Err, OnOk, refl, sym, ap, ◌∙◌, subst, arith}
use Rattle.std.proofs.lemmas.Bool.Decides.{nat_tests}
use Rattle.scheme_data.specs.declared.datum.Place.{Place}
use Rattle.scheme_data.specs.declared.datum.Datum.{Datum}
use Rattle.scheme_data.specs.declared.datum.LimitKind.TheVariants as limit
use Rattle.scheme_data.specs.Forms.{Form, form, end, next, form_nesting}
use Rattle.syntax_rules.specs.Trees.{Macro}
use Rattle.core_forms.specs.Scope.{Marked}
use Rattle.core_forms.specs.declared.core_form.Binder.{Binder}
use Rattle.core_forms.specs.declared.core_form.CoreExpr.{CoreExpr}
use Rattle.core_forms.specs.declared.core_form.CoreExpr as core
use Rattle.core_forms.specs.declared.counting.Counts.{Counts}
use Rattle.core_forms.specs.declared.words.Keyword.{Keyword}
use Rattle.core_forms.specs.declared.error.ExpandErr.{ExpandErr}
use Rattle.core_forms.specs.declared.error.ExpandErr.TheVariants as fault
use Rattle.core_forms.specs.declared.work.Open.TheVariants as open_form
use Rattle.core_forms.specs.declared.work.Part.{Part}
use Rattle.core_forms.specs.declared.work.Node.{Node}
use Rattle.core_forms.specs.declared.work.Made.TheVariants as made_form
use Rattle.core_forms.specs.Mid.{constant, quoted, leaf, made, trees_then, Head, Mid, raw, body, node, Parts, none, mid_nesting, tree, finished}
use Rattle.core_forms.specs.Table.{Turn, becomes}
use Rattle.core_forms.specs.Bodies.{expression, look, body_turn}
use Rattle.core_forms.specs.Rewriting.{Progress, moves, stops, moved, step, steps, here, onto, Halts, Walked}
use Rattle.core_forms.specs.Code.{nests_in, OkOrMemory}
use Rattle.core_forms.specs.Working.{open_of, parts_then, node_mid}
use Rattle.core_forms.proofs.Measures.{nests-is}
use Rattle.core_forms.proofs.Trees.{tree-Constant, tree-Quote}
use Rattle.expander.specs.declared.expander.Expander.{Expander}
use Rattle.expander.specs.Around.{SameAround}
use Rattle.expander.specs.Walks.{LaterWalked, TurnWalked, MadeWalked, SoFar, Fits, Further, PartsWalked, Stopped}
use Rattle.expander.proofs.Arounds.{same_on}
use Rattle.expander.proofs.PartWalks.{at_start, node_halts, node_walked, walked_more, parts_fit}
use Rattle.expander.proofs.TurnWalks.{fits, turn_fits}

pub still_around : {A : Type 0} (r : Result A ExpandErr) (a b d : Expander) → SameAround a b → OnOk r (SameAround b d) → OnOk r (SameAround a d)
still_around (Ok x) a b d e h = same_on a b d e h
still_around (Err f) a b d e h = tt

module _ (ks : List Macro) (room : ℕ) (s : List Marked) (n : Counts) where
  pub leaf_walked : (c : CoreExpr) → MadeWalked ks room s n (made_form.Leaf c) (Ok c) n
  leaf_walked c t h = subst (λ (t : Turn). TurnWalked ks room s t (Ok c) n) (sym h.is)
      (turn_fits ks room s n h.mid (Ok c) n (omega (arith, h.flat)) (record { last = h.mid; reaches = here; shows = h.shows }))

  node_leaf : (m : Mid) (c : CoreExpr) (r : Result CoreExpr ExpandErr) (b : Bool) → finished m ≡ Some (tree c) → r ≡ (if b then Ok c else Err (fault.Limit limit.Depth)) → nat_le (mid_nesting m) room ≡ b
      → TurnWalked ks room s (becomes n m) r n
  node_leaf m c r true f g e =
      let moved_to : moved room (becomes n m) ≡ moves n m = ap (λ (b : Bool). if b then moves n m else stops (fault.Limit limit.Depth)) e in
      subst (λ (p : Progress Mid). LaterWalked ks room s p r n) (sym moved_to) (subst (λ (r : Result CoreExpr ExpandErr). Walked ks room s n m r n) (sym g) (record { last = m; reaches = here; shows = f }))
  node_leaf m c r false f g e =
      let stopped : moved room (becomes n m) ≡ stops (fault.Limit limit.Depth) = ap (λ (b : Bool). if b then moves n m else stops (fault.Limit limit.Depth)) e in
      subst (λ (p : Progress Mid). LaterWalked ks room s p r n) (sym stopped) (subst (λ (r : Result CoreExpr ExpandErr). Stopped (fault.Limit limit.Depth) r) (sym g) refl)

  no_more : (k : ℕ) → nat_le (max k 0) room ≡ nat_le k room
  no_more k = ap (λ (k : ℕ). nat_le k room) (omega arith)

  within_list : (k : ℕ) → (nat_lt 0 room && nat_le k (room - 1)) ≡ nat_le (1 + k) room
  within_list k = grind (arith, nat_tests)

  pub constant_walked : (at : Place) (d : Datum) (r : Result CoreExpr ExpandErr) (b : Bool) → r ≡ (if b then Ok (core.Constant at d) else Err (fault.Limit limit.Depth)) → b ≡ nests_in room (form d)
      → MadeWalked ks room s n (made_form.Constant at d) r n
  constant_walked at d r b g e t h = subst (λ (t : Turn). TurnWalked ks room s t r n) (sym h)
      (node_leaf (node at (constant (form d)) none) (core.Constant at d) r b (ap Some (sym (tree-Constant at d))) g (no_more (form_nesting (form d)) ∙ sym (nests-is room (form d)) ∙ sym e))

  pub quoted_walked : (at : Place) (d : Datum) (r : Result CoreExpr ExpandErr) (b : Bool) → r ≡ (if b then Ok (core.Quote at d) else Err (fault.Limit limit.Depth)) → b ≡ (nat_lt 0 room && nests_in (room - 1) (form d))
      → MadeWalked ks room s n (made_form.Quoted at d) r n
  quoted_walked at d r b g e t h = subst (λ (t : Turn). TurnWalked ks room s t r n) (sym h)
      (node_leaf (node at (quoted (form d)) none) (core.Quote at d) r b (ap Some (sym (tree-Quote at d))) g
      (no_more (1 + form_nesting (form d)) ∙ sym (within_list (form_nesting (form d))) ∙ ap (λ (b : Bool). nat_lt 0 room && b) (sym (nests-is (room - 1) (form d))) ∙ sym e))

  pub made_is_node : (o : Node) (r : Result CoreExpr ExpandErr) (after : Counts) → TurnWalked ks room s (becomes n (node_mid o)) r after → MadeWalked ks room s n (made_form.Node o) r after
  made_is_node o r after w t h = subst (λ (t : Turn). TurnWalked ks room s t r after) (sym h.is) w

  -- a body of one form
  only_form : (at : Place) (d : Form) (r : Result CoreExpr ExpandErr) (after : Counts) → look ks s n d end ≡ expression d end → Walked ks room s n (raw d) r after → Walked ks room s n (body at (next d end)) r after
  only_form at d r after e w = walked_more ks room s n n after (body at (next d end)) (raw d) r (onto (ap (λ l. moved room (body_turn n at l)) e ∙ fits room n (raw d) (omega arith)) here) w

  pub only_let_star : (at : Place) (xs bs : List Datum) (r : Result CoreExpr ExpandErr) (after : Counts) → Walked ks room s n (raw (open_of (open_form.LetStar at xs bs))) r after
      → Walked ks room s n (body at (next (open_of (open_form.LetStar at xs bs)) end)) r after
  only_let_star at xs bs r after w = only_form at _ r after refl w

  pub only_choice : (at : Place) (a b : Datum) (k : Keyword) (ds : List Datum) (r : Result CoreExpr ExpandErr) (after : Counts) → Walked ks room s n (raw (open_of (open_form.Choice at a b k ds))) r after
      → Walked ks room s n (body at (next (open_of (open_form.Choice at a b k ds)) end)) r after
  only_choice at a b k ds r after w = only_form at _ r after refl w

  -- Nodes -------------------------------------------------------------------------------

  module _ (at : Place) (h : Head) (xs : List Binder) (outer inner : List Part) where
    abbrev Whole : Parts
    Whole = parts_then [] outer (parts_then xs inner none)

    pub outer_walked : (r : Result Unit ExpandErr) (before cs : List CoreExpr) (k : Counts) → before ≡ [] → PartsWalked ks room s n outer before r cs k → Further ks room s n Whole (parts_then xs inner none) cs r k
    outer_walked r before cs k e w = w s [] n Whole (parts_then xs inner none) refl (at_start ks room s n Whole before e)

    pub whole_walked : (r : Result CoreExpr ExpandErr) (cs : List CoreExpr) (m : Counts) → SoFar ks room s n Whole m none cs
        → OkOrMemory r (λ c. tree c ≡ made at h (trees_then (map tree cs) leaf)) → Walked ks room s n (node at h Whole) r m
    whole_walked r cs m p e = node_walked ks room s n Whole m cs at h r p e

    pub whole_halts : (f : ExpandErr) → Halts Parts (steps ks room s) n Whole f → Halts Mid (step ks room s) n (node at h Whole) f
    whole_halts f x = node_halts ks room s n Whole at h f x

pub both_fit : (room : ℕ) (at : Place) (h : Head) (xs : List Binder) (outer inner : List Part) → mid_nesting (node at h (parts_then [] outer (parts_then xs inner none))) ≤ room → Fits room outer × Fits room inner
both_fit room at h xs outer inner l =
    let p = parts_fit room [] outer (parts_then xs inner none) (omega (arith, l)) in
    let q = parts_fit room xs inner none p.1 in (p.0, q.0)
