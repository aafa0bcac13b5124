-- How replacements in a part are replacements of the whole.
use Rattle.std.proofs.Common.{◌≡◌, ℕ, ◌-◌, List, Option, Some, None, refl, ap, ◌∙◌}
use Rattle.scheme_data.specs.declared.datum.Place.{Place}
use Rattle.syntax_rules.specs.Trees.{Macro}
use Rattle.core_forms.specs.Scope.{Marked, entered}
use Rattle.core_forms.specs.declared.core_form.Binder.{Binder}
use Rattle.core_forms.specs.declared.counting.Counts.{Counts}
use Rattle.core_forms.specs.declared.error.ExpandErr.{ExpandErr}
use Rattle.core_forms.specs.declared.error.ExpandErr.TheVariants as fault
use Rattle.core_forms.specs.Mid.{Head, Tree, Trees, Mid, raw, lambda_form, body, group, variable, refused, node, Parts, none, part, rest, made_of, more_of, finished, all_finished}
use Rattle.core_forms.specs.Rewriting.{Progress, still, within, leftmost, step, steps, Reaches, here, onto, StopsAt, Halts}

pub onward : {A : Type 0} {F : Counts → A → Progress A} {n m k : Counts} {a b c : A} → Reaches A F n a m b → Reaches A F m b k c → Reaches A F n a k c
onward here r = r
onward (onto e q) r = onto e (onward q r)

pub stops_later : {A : Type 0} {F : Counts → A → Progress A} {n m : Counts} {a b : A} {f : ExpandErr} → Reaches A F n a m b → StopsAt A F m b f → StopsAt A F n a f
stops_later r t = record { counts = t.counts; form = t.form; reaches = onward r t.reaches; stop = t.stop }

pub halts_along : {A B : Type 0} {F : Counts → A → Progress A} {G : Counts → B → Progress B} {n m : Counts} {a : A} {b : B}
    → ((f : ExpandErr) → StopsAt A F n a f → StopsAt B G m b f) → (f : ExpandErr) → Halts A F n a f → Halts B G m b f
halts_along t (fault.BadRules at) h = t _ h
halts_along t (fault.NoRule at) h = t _ h
halts_along t (fault.Form at) h = t _ h
halts_along t (fault.Limit k) h = t _ h
halts_along t fault.Memory h = tt

-- Finished parts ------------------------------------------------------------------------

pub record SomeParts (o : Option Trees) : Type 0 where
  pub trees : Trees
  pub is : o ≡ Some trees

some_parts : (at : Place) (h : Head) (o : Option Trees) (t : Tree) → made_of at h o ≡ Some t → SomeParts o
some_parts at h None t e = absurd (cc)
some_parts at h (Some ts) t e = record { trees = ts; is = refl }

pub record Both (a : Option Tree) (b : Option Trees) : Type 0 where
  pub first : Tree
  pub others : Trees
  pub is_first : a ≡ Some first
  pub are_others : b ≡ Some others

both : (a : Option Tree) (b : Option Trees) (ts : Trees) → more_of a b ≡ Some ts → Both a b
both None b ts e = absurd (cc)
both (Some t) None ts e = absurd (cc)
both (Some t) (Some us) ts e = record { first = t; others = us; is_first = refl; are_others = refl }

-- where only core forms stand, nothing is replaced
mutual
  pub finished_still : (ks : List Macro) (room : ℕ) (s : List Marked) (n : Counts) (m : Mid) (t : Tree) → finished m ≡ Some t → step ks room s n m ≡ still
  finished_still ks room s n (raw d) t h = absurd (cc)
  finished_still ks room s n (lambda_form at d) t h = absurd (cc)
  finished_still ks room s n (body at ds) t h = absurd (cc)
  finished_still ks room s n (group at fs ds) t h = absurd (cc)
  finished_still ks room s n (variable at x e ds) t h = absurd (cc)
  finished_still ks room s n (refused at) t h = absurd (cc)
  finished_still ks room s n (node at g ps) t h =
      let p = some_parts at g (all_finished ps) t h in ap (within at g) (parts_still ks room s n ps p.trees p.is)

  pub parts_still : (ks : List Macro) (room : ℕ) (s : List Marked) (n : Counts) (ps : Parts) (ts : Trees) → all_finished ps ≡ Some ts → steps ks room s n ps ≡ still
  parts_still ks room s n none ts h = refl
  parts_still ks room s n (part w xs m ps) ts h =
      let b = both (finished m) (all_finished ps) ts h in
      ap (λ p. leftmost w xs m ps p (steps ks room s n ps)) (finished_still ks (room - w) (entered xs s) n m b.first b.is_first)
      ∙ ap (leftmost w xs m ps still) (parts_still ks room s n ps b.others b.are_others)
  parts_still ks room s n (rest at ds) ts h = absurd (cc)

module _ (ks : List Macro) (room : ℕ) (s : List Marked) where
  pub in_node : (at : Place) (h : Head) {n m : Counts} {ps qs : Parts} → Reaches Parts (steps ks room s) n ps m qs → Reaches Mid (step ks room s) n (node at h ps) m (node at h qs)
  in_node at h here = here
  in_node at h (onto e r) = onto (ap (within at h) e) (in_node at h r)

  pub in_part : (w : ℕ) (xs : List Binder) (ps : Parts) {n m : Counts} {a b : Mid} → Reaches Mid (step ks (room - w) (entered xs s)) n a m b
      → Reaches Parts (steps ks room s) n (part w xs a ps) m (part w xs b ps)
  in_part w xs ps here = here
  in_part w xs ps {n} {m} {a} {b} (onto e r) = onto (ap (λ p. leftmost w xs a ps p (steps ks room s n ps)) e) (in_part w xs ps r)

  pub in_rest : (w : ℕ) (xs : List Binder) (a : Mid) (t : Tree) → finished a ≡ Some t → {n m : Counts} {ps qs : Parts} → Reaches Parts (steps ks room s) n ps m qs
      → Reaches Parts (steps ks room s) n (part w xs a ps) m (part w xs a qs)
  in_rest w xs a t h here = here
  in_rest w xs a t h {n} {m} {ps} {qs} (onto e r) =
      onto (ap (λ p. leftmost w xs a ps p (steps ks room s n ps)) (finished_still ks (room - w) (entered xs s) n a t h) ∙ ap (leftmost w xs a ps still) e) (in_rest w xs a t h r)

  pub stops_in_node : (at : Place) (h : Head) {n : Counts} {ps : Parts} {f : ExpandErr} → StopsAt Parts (steps ks room s) n ps f → StopsAt Mid (step ks room s) n (node at h ps) f
  stops_in_node at h t = record { counts = t.counts; form = node at h t.form; reaches = in_node at h t.reaches; stop = ap (within at h) t.stop }

  pub stops_in_part : (w : ℕ) (xs : List Binder) (ps : Parts) {n : Counts} {a : Mid} {f : ExpandErr} → StopsAt Mid (step ks (room - w) (entered xs s)) n a f
      → StopsAt Parts (steps ks room s) n (part w xs a ps) f
  stops_in_part w xs ps t = record {
    counts = t.counts;
    form = part w xs t.form ps;
    reaches = in_part w xs ps t.reaches;
    stop = ap (λ p. leftmost w xs t.form ps p (steps ks room s t.counts ps)) t.stop;
  }

  pub stops_in_rest : (w : ℕ) (xs : List Binder) (a : Mid) (u : Tree) → finished a ≡ Some u → {n : Counts} {ps : Parts} {f : ExpandErr} → StopsAt Parts (steps ks room s) n ps f
      → StopsAt Parts (steps ks room s) n (part w xs a ps) f
  stops_in_rest w xs a u h t = record {
    counts = t.counts;
    form = part w xs a t.form;
    reaches = in_rest w xs a u h t.reaches;
    stop = ap (λ p. leftmost w xs a t.form p (steps ks room s t.counts t.form)) (finished_still ks (room - w) (entered xs s) t.counts a u h) ∙ ap (leftmost w xs a t.form still) t.stop;
  }
