-- The steps of a module's forms, one after another.
use Rattle.std.proofs.Common.{◌≡◌, ℕ, ◌-◌, List, [], ◌∷◌, ◌++◌, map, Option, Some, None, Result, Ok, Err, append_assoc, refl, sym, ap, ◌∙◌, subst}
use Rattle.scheme_data.specs.declared.datum.Place.{Place}
use Rattle.syntax_rules.specs.Trees.{Macro}
use Rattle.core_forms.specs.Scope.{Marked, entered}
use Rattle.core_forms.specs.Mid.{Head, Tree, Trees, tree, Mid, raw, lambda_form, body, group, variable, refused, node, Parts, none, part, rest, made_of, more_of, finished, all_finished}
use Rattle.core_forms.specs.Rewriting.{Progress, still, moves, stops, within, leftmost, step, steps, Reaches, StopsAt, Halts, Becomes, Walked}
use Rattle.core_forms.specs.Rewriting as rewriting
use Rattle.core_forms.specs.Modules.{Sort, Top, form, syntax, defined, evaluated, TopTree, Syntax, Defines, Evaluates, top_tree, TopProgress, rests, goes, ends, in_definition, in_expression, top_step, first_top, tops_step, TopsReach, all_of, tree_top, finished_top, finished_tops}
use Rattle.core_forms.specs.Modules as modules
use Rattle.core_forms.specs.Code.{Refusing, IsMemory}
use Rattle.core_forms.specs.declared.core_form.Binder.{Binder}
use Rattle.core_forms.specs.declared.core_form.CoreExpr.{CoreExpr}
use Rattle.core_forms.specs.declared.core_form.CoreTop.{CoreTop}
use Rattle.core_forms.specs.declared.core_form.CoreTop.TheVariants as code
use Rattle.core_forms.specs.declared.counting.Counts.{Counts}
use Rattle.core_forms.specs.declared.error.ExpandErr.{ExpandErr}
use Rattle.core_forms.specs.declared.error.ExpandErr.TheVariants as fault
use Rattle.expander.specs.TopWalks.{TopsStop, TopBecomes, TopStops, TopWalked, StepWalked, over, StepTaken, AddsAs, SoFar, Advances}

-- Finished forms ------------------------------------------------------------------------

record SomeParts (o : Option Trees) : Type 0 where
  trees : Trees
  is : o ≡ Some trees

some_parts : (at : Place) (h : Head) (o : Option Trees) (t : Tree) → made_of at h o ≡ Some t → SomeParts o
some_parts at h None t e = absurd (cc)
some_parts at h (Some ts) t e = record { trees = ts; is = refl }

record Both (a : Option Tree) (b : Option Trees) : Type 0 where
  first : Tree
  others : Trees
  is_first : a ≡ Some first
  are_others : b ≡ Some others

both : (a : Option Tree) (b : Option Trees) (ts : Trees) → more_of a b ≡ Some ts → Both a b
both None b ts e = absurd (cc)
both (Some t) None ts e = absurd (cc)
both (Some t) (Some us) ts e = record { first = t; others = us; is_first = refl; are_others = refl }

-- where only core forms stand, nothing is replaced
mutual
  mid_still : (ks : List Macro) (room : ℕ) (s : List Marked) (n : Counts) (m : Mid) (t : Tree) → finished m ≡ Some t → step ks room s n m ≡ still
  mid_still ks room s n (raw d) t h = absurd (cc)
  mid_still ks room s n (lambda_form at d) t h = absurd (cc)
  mid_still ks room s n (body at ds) t h = absurd (cc)
  mid_still ks room s n (group at fs ds) t h = absurd (cc)
  mid_still ks room s n (variable at x e ds) t h = absurd (cc)
  mid_still ks room s n (refused at) t h = absurd (cc)
  mid_still ks room s n (node at g ps) t h =
      let p = some_parts at g (all_finished ps) t h in ap (within at g) (parts_still ks room s n ps p.trees p.is)

  parts_still : (ks : List Macro) (room : ℕ) (s : List Marked) (n : Counts) (ps : Parts) (ts : Trees) → all_finished ps ≡ Some ts → steps ks room s n ps ≡ still
  parts_still ks room s n none ts h = refl
  parts_still ks room s n (part w xs m ps) ts h =
      let b = both (finished m) (all_finished ps) ts h in
      ap (λ p. leftmost w xs m ps p (steps ks room s n ps)) (mid_still ks (room - w) (entered xs s) n m b.first b.is_first)
      ∙ ap (leftmost w xs m ps still) (parts_still ks room s n ps b.others b.are_others)
  parts_still ks room s n (rest at ds) ts h = absurd (cc)

record SomeTree (o : Option Tree) : Type 0 where
  its : Tree
  is : o ≡ Some its

some_tree : (f : Tree → TopTree) (o : Option Tree) (u : TopTree) → tree_top f o ≡ Some u → SomeTree o
some_tree f None u e = absurd (cc)
some_tree f (Some t) u e = record { its = t; is = refl }

top_still : (ks : List Macro) (n : Counts) (t : Top) (u : TopTree) → finished_top t ≡ Some u → top_step ks n t ≡ rests
top_still ks n (form d) u h = absurd (cc)
top_still ks n (syntax at x) u h = refl
top_still ks n (defined sort x w m) u h =
    let t = some_tree (Defines sort x) (finished m) u h in ap (in_definition ks sort x w) (mid_still ks (1000 - w) [] n m t.its t.is)
top_still ks n (evaluated m) u h =
    let t = some_tree Evaluates (finished m) u h in ap (in_expression ks) (mid_still ks 1000 [] n m t.its t.is)

record BothTops (a : Option TopTree) (b : Option (List TopTree)) (us : List TopTree) : Type 0 where
  first : TopTree
  others : List TopTree
  is_first : a ≡ Some first
  are_others : b ≡ Some others
  are : us ≡ first ∷ others

both_tops : (a : Option TopTree) (b : Option (List TopTree)) (us : List TopTree) → all_of a b ≡ Some us → BothTops a b us
both_tops None b us e = absurd (cc)
both_tops (Some t) None us e = absurd (cc)
both_tops (Some t) (Some ts) us e = record { first = t; others = ts; is_first = refl; are_others = refl; are = cc }

pub tops_still : (ks : List Macro) (n : Counts) (ts : List Top) (us : List TopTree) → finished_tops ts ≡ Some us → tops_step ks n ts ≡ rests
tops_still ks n [] us h = refl
tops_still ks n (t ∷ ts) us h =
    let b = both_tops (finished_top t) (finished_tops ts) us h in
    ap (λ p. first_top t ts p (tops_step ks n ts)) (top_still ks n t b.first b.is_first)
    ∙ ap (first_top t ts rests) (tops_still ks n ts b.others b.are_others)

-- Behind finished forms -----------------------------------------------------------------

abbrev behind : List Top → TopProgress (List Top) → TopProgress (List Top)
behind fs rests = rests
behind fs (goes ks n us) = goes ks n (fs ++ us)
behind fs (ends f) = ends f

behind_none : (p : TopProgress (List Top)) → p ≡ behind [] p
behind_none rests = refl
behind_none (goes ks n us) = refl
behind_none (ends f) = refl

behind_more : (t : Top) (fs after : List Top) (p : TopProgress (List Top)) → first_top t after rests (behind fs p) ≡ behind (t ∷ fs) p
behind_more t fs after rests = refl
behind_more t fs after (goes ks n us) = refl
behind_more t fs after (ends f) = refl

step_behind : (ks : List Macro) (n : Counts) (fs : List Top) (us : List TopTree) (ts : List Top) → finished_tops fs ≡ Some us → tops_step ks n (fs ++ ts) ≡ behind fs (tops_step ks n ts)
step_behind ks n [] us ts h = behind_none (tops_step ks n ts)
step_behind ks n (t ∷ fs) us ts h =
    let b = both_tops (finished_top t) (finished_tops fs) us h in
    ap (λ p. first_top t (fs ++ ts) p (tops_step ks n (fs ++ ts))) (top_still ks n t b.first b.is_first)
    ∙ (ap (first_top t (fs ++ ts) rests) (step_behind ks n fs b.others ts b.are_others) ∙ behind_more t fs (fs ++ ts) (tops_step ks n ts))

reach_behind : (fs : List Top) (us : List TopTree) → finished_tops fs ≡ Some us → {ks js : List Macro} {n m : Counts} {ts vs : List Top} → TopsReach ks n ts js m vs → TopsReach ks n (fs ++ ts) js m (fs ++ vs)
reach_behind fs us h modules.here = modules.here
reach_behind fs us h {ks} {js} {n} {m} {ts} {vs} (modules.onto e r) = modules.onto (step_behind ks n fs us ts h ∙ ap (behind fs) e) (reach_behind fs us h r)

pub reach_on : {ks js is : List Macro} {n m k : Counts} {ts us vs : List Top} → TopsReach ks n ts js m us → TopsReach js m us is k vs → TopsReach ks n ts is k vs
reach_on modules.here q = q
reach_on (modules.onto e r) q = modules.onto e (reach_on r q)

finished_with : (fs : List Top) (us : List TopTree) (t : Top) (u : TopTree) → finished_tops fs ≡ Some us → finished_top t ≡ Some u → finished_tops (fs ++ t ∷ []) ≡ Some (us ++ u ∷ [])
finished_with [] us t u h g = let e : us ≡ [] = cc in rw (e, g) refl
finished_with (s ∷ fs) us t u h g =
    let b = both_tops (finished_top s) (finished_tops fs) us h in
    ap (λ o. all_of o (finished_tops (fs ++ t ∷ []))) b.is_first ∙ (ap (all_of (Some b.first)) (finished_with fs b.others t u b.are_others g) ∙ ap (λ us. Some (us ++ u ∷ [])) (sym b.are))

-- One form ------------------------------------------------------------------------------

refused_along : {P Q : ExpandErr → Type 0} → ((f : ExpandErr) → P f → Q f) → (f : ExpandErr) → Refusing P f → Refusing Q f
refused_along t (fault.BadRules at) h = t _ h
refused_along t (fault.NoRule at) h = t _ h
refused_along t (fault.Form at) h = t _ h
refused_along t (fault.Limit k) h = t _ h
refused_along t fault.Memory h = tt

module _ (ks : List Macro) where
  value_reach : (sort : Sort) (x : Binder) (w : ℕ) (ts : List Top) {n m : Counts} {a b : Mid} → Reaches Mid (step ks (1000 - w) []) n a m b
      → TopsReach ks n (defined sort x w a ∷ ts) ks m (defined sort x w b ∷ ts)
  value_reach sort x w ts rewriting.here = modules.here
  value_reach sort x w ts {n} {m} {a} {b} (rewriting.onto e r) =
      modules.onto (ap (λ p. first_top (defined sort x w a) ts (in_definition ks sort x w p) (tops_step ks n ts)) e) (value_reach sort x w ts r)

  expr_reach : (ts : List Top) {n m : Counts} {a b : Mid} → Reaches Mid (step ks 1000 []) n a m b → TopsReach ks n (evaluated a ∷ ts) ks m (evaluated b ∷ ts)
  expr_reach ts rewriting.here = modules.here
  expr_reach ts {n} {m} {a} {b} (rewriting.onto e r) = modules.onto (ap (λ p. first_top (evaluated a) ts (in_expression ks p) (tops_step ks n ts)) e) (expr_reach ts r)

  value_stops : (sort : Sort) (x : Binder) (w : ℕ) (n : Counts) (m : Mid) (f : ExpandErr) → StopsAt Mid (step ks (1000 - w) []) n m f → TopStops ks n (defined sort x w m) f
  value_stops sort x w n m f h = record {
    counts = h.counts;
    last = defined sort x w h.form;
    reaches = λ ts. value_reach sort x w ts h.reaches;
    stop = ap (in_definition ks sort x w) h.stop;
  }

  expr_stops : (n : Counts) (m : Mid) (f : ExpandErr) → StopsAt Mid (step ks 1000 []) n m f → TopStops ks n (evaluated m) f
  expr_stops n m f h = record {
    counts = h.counts;
    last = evaluated h.form;
    reaches = λ ts. expr_reach ts h.reaches;
    stop = ap (in_expression ks) h.stop;
  }

  value_halts : (sort : Sort) (x : Binder) (w : ℕ) (n : Counts) (m : Mid) (f : ExpandErr) → Halts Mid (step ks (1000 - w) []) n m f → Refusing (TopStops ks n (defined sort x w m)) f
  value_halts sort x w n m (fault.BadRules at) h = value_stops sort x w n m _ h
  value_halts sort x w n m (fault.NoRule at) h = value_stops sort x w n m _ h
  value_halts sort x w n m (fault.Form at) h = value_stops sort x w n m _ h
  value_halts sort x w n m (fault.Limit k) h = value_stops sort x w n m _ h
  value_halts sort x w n m fault.Memory h = tt

  expr_halts : (n : Counts) (m : Mid) (f : ExpandErr) → Halts Mid (step ks 1000 []) n m f → Refusing (TopStops ks n (evaluated m)) f
  expr_halts n m (fault.BadRules at) h = expr_stops n m _ h
  expr_halts n m (fault.NoRule at) h = expr_stops n m _ h
  expr_halts n m (fault.Form at) h = expr_stops n m _ h
  expr_halts n m (fault.Limit k) h = expr_stops n m _ h
  expr_halts n m fault.Memory h = tt

  value_becomes : (sort : Sort) (x : Binder) (w : ℕ) (n : Counts) (m : Mid) (u : Tree) (after : Counts) → Becomes ks (1000 - w) [] n m u after → TopBecomes ks n (defined sort x w m) (Defines sort x u) after
  value_becomes sort x w n m u after b = record {
    last = defined sort x w b.last;
    reaches = λ ts. value_reach sort x w ts b.reaches;
    shows = ap (tree_top (Defines sort x)) b.shows;
  }

  expr_becomes : (n : Counts) (m : Mid) (u : Tree) (after : Counts) → Becomes ks 1000 [] n m u after → TopBecomes ks n (evaluated m) (Evaluates u) after
  expr_becomes n m u after b = record {
    last = evaluated b.last;
    reaches = λ ts. expr_reach ts b.reaches;
    shows = ap (tree_top Evaluates) b.shows;
  }

  -- behind a step
  first_reach : (n : Counts) (t u : Top) (ts : List Top) → top_step ks n t ≡ goes ks n (u ∷ []) → TopsReach ks n (t ∷ ts) ks n (u ∷ ts)
  first_reach n t u ts e = modules.onto (ap (λ p. first_top t ts p (tops_step ks n ts)) e) modules.here

  first_becomes : (n : Counts) (t u : Top) (c : TopTree) (after : Counts) → top_step ks n t ≡ goes ks n (u ∷ []) → TopBecomes ks n u c after → TopBecomes ks n t c after
  first_becomes n t u c after e b = record { last = b.last; reaches = λ ts. reach_on (first_reach n t u ts e) (b.reaches ts); shows = b.shows }

  first_stops : (n : Counts) (t u : Top) (f : ExpandErr) → top_step ks n t ≡ goes ks n (u ∷ []) → TopStops ks n u f → TopStops ks n t f
  first_stops n t u f e h = record { counts = h.counts; last = h.last; reaches = λ ts. reach_on (first_reach n t u ts e) (h.reaches ts); stop = h.stop }

  pub first_walked : (n : Counts) (u : Top) (r : Result CoreTop ExpandErr) (after : Counts) → TopWalked ks n u r after → StepWalked ks n (goes ks n (u ∷ [])) r after
  first_walked n u (Ok c) after w t e = first_becomes n t u (top_tree c) after e w
  first_walked n u (Err f) after w t e = refused_along (λ f h. first_stops n t u f e h) f w

  pub value_walked : (sort : Sort) (x : Binder) (w : ℕ) (n : Counts) (m : Mid) (c : CoreExpr) (d : CoreTop) (after : Counts) → top_tree d ≡ Defines sort x (tree c) → Walked ks (1000 - w) [] n m (Ok c) after
      → StepWalked ks n (goes ks n (defined sort x w m ∷ [])) (Ok d) after
  value_walked sort x w n m c d after e h t g =
      first_becomes n t (defined sort x w m) (top_tree d) after g (subst (λ u. TopBecomes ks n (defined sort x w m) u after) (sym e) (value_becomes sort x w n m (tree c) after h))

  pub value_refused : (sort : Sort) (x : Binder) (w : ℕ) (n : Counts) (m : Mid) (f : ExpandErr) (after : Counts) → Walked ks (1000 - w) [] n m (Err f) after
      → StepWalked ks n (goes ks n (defined sort x w m ∷ [])) (Err f) after
  value_refused sort x w n m f after h = first_walked n (defined sort x w m) (Err f) after (value_halts sort x w n m f h)

  pub expr_walked : (n : Counts) (m : Mid) (c : CoreExpr) (after : Counts) → Walked ks 1000 [] n m (Ok c) after → StepWalked ks n (goes ks n (evaluated m ∷ [])) (Ok (code.Form c)) after
  expr_walked n m c after h = first_walked n (evaluated m) (Ok (code.Form c)) after (expr_becomes n m (tree c) after h)

  pub expr_refused : (n : Counts) (m : Mid) (f : ExpandErr) (after : Counts) → Walked ks 1000 [] n m (Err f) after → StepWalked ks n (goes ks n (evaluated m ∷ [])) (Err f) after
  expr_refused n m f after h = first_walked n (evaluated m) (Err f) after (expr_halts n m f h)

  -- a step that ends
  pub ends_walked : (n : Counts) (f : ExpandErr) (after : Counts) → StepWalked ks n (ends f) (Err f) after
  ends_walked n (fault.BadRules at) after t e = record { counts = n; last = t; reaches = λ ts. modules.here; stop = e }
  ends_walked n (fault.NoRule at) after t e = record { counts = n; last = t; reaches = λ ts. modules.here; stop = e }
  ends_walked n (fault.Form at) after t e = record { counts = n; last = t; reaches = λ ts. modules.here; stop = e }
  ends_walked n (fault.Limit k) after t e = record { counts = n; last = t; reaches = λ ts. modules.here; stop = e }
  ends_walked n fault.Memory after t e = tt

-- One form among others -----------------------------------------------------------------

over_step : (t : Top) (ts : List Top) (p q : TopProgress (List Top)) (ks : List Macro) (n : Counts) (us : List Top) → over p ts ≡ goes ks n us → first_top t ts p q ≡ goes ks n us
over_step t ts rests q ks n us e = absurd (cc)
over_step t ts (goes js m vs) q ks n us e = e
over_step t ts (ends f) q ks n us e = absurd (cc)

module _ (js : List Macro) (m : Counts) (done : List CoreTop) (ks : List Macro) (n : Counts) (ts : List Top) where
  taken_so : (known : List Macro) (after : Counts) (left new : List Top) → SoFar ks n ts js m done left → TopsReach js m left known after new → SoFar ks n ts known after done new
  taken_so known after left new s r = record { front = s.front; reaches = reach_on s.reaches (reach_behind s.front (map top_tree done) s.shows r); shows = s.shows }

  all_trees : (cs : List CoreTop) (c : CoreTop) → map top_tree (cs ++ c ∷ []) ≡ map top_tree cs ++ top_tree c ∷ []
  all_trees [] c = refl
  all_trees (d ∷ cs) c = ap (λ us. top_tree d ∷ us) (all_trees cs c)

  made_so : (known : List Macro) (after : Counts) (new : List CoreTop) (left others : List Top) (t : Top) (c : CoreTop) → SoFar ks n ts js m done left → new ≡ done ++ c ∷ [] → finished_top t ≡ Some (top_tree c)
      → TopsReach js m left known after (t ∷ others) → SoFar ks n ts known after new others
  made_so known after new left others t c s e f r = record {
    front = s.front ++ t ∷ [];
    reaches = subst (λ us. TopsReach ks n ts known after us) (sym (append_assoc s.front (t ∷ []) others)) (reach_on s.reaches (reach_behind s.front (map top_tree done) s.shows r));
    shows = finished_with s.front (map top_tree done) t (top_tree c) s.shows f ∙ ap Some (sym (all_trees done c) ∙ ap (map top_tree) (sym e));
  }

  stops_so : (known : List Macro) (after : Counts) (left last : List Top) (f : ExpandErr) → SoFar ks n ts js m done left → TopsReach js m left known after last → tops_step known after last ≡ ends f → TopsStop ks n ts f
  stops_so known after left last f s r e = record {
    known = known;
    counts = after;
    last = s.front ++ last;
    reaches = reach_on s.reaches (reach_behind s.front (map top_tree done) s.shows r);
    stop = step_behind known after s.front (map top_tree done) last s.shows ∙ ap (behind s.front) e;
  }

memory_free : (P : ExpandErr → Type 0) (f : ExpandErr) → IsMemory f → Refusing P f
memory_free P (fault.BadRules at) h = absurd h
memory_free P (fault.NoRule at) h = absurd h
memory_free P (fault.Form at) h = absurd h
memory_free P (fault.Limit k) h = absurd h
memory_free P fault.Memory h = tt

-- what a step puts in front of others
pub taken : (js : List Macro) (m : Counts) (done : List CoreTop) (t : Top) (p : TopProgress (List Top)) (left : List Top) (r : Result (Unit {0}) ExpandErr) (known : List Macro) (after : Counts) (new : List Top)
    → top_step js m t ≡ p → StepTaken p left r known after new → Advances js m done (t ∷ left) r known after done new
taken js m done t p left (Ok u) known after new e h ks n ts s =
    taken_so js m done ks n ts known after (t ∷ left) new s (modules.onto (over_step t left (top_step js m t) (tops_step js m left) known after new (ap (λ p. over p left) e ∙ h)) modules.here)
taken js m done t p left (Err f) known after new e h ks n ts s =
    refused_along {P = λ f. p ≡ ends f} (λ f (h : p ≡ ends f). stops_so js m done ks n ts js m (t ∷ left) (t ∷ left) f s modules.here (ap (λ p. first_top t left p (tops_step js m left)) (e ∙ h))) f h

-- what is made of a form is added
pub added : (js : List Macro) (m : Counts) (done : List CoreTop) (t : Top) (left : List Top) (made : Result CoreTop ExpandErr) (r : Result (Unit {0}) ExpandErr) (known : List Macro) (after : Counts) (new : List CoreTop)
    → TopWalked js m t made after → AddsAs made done r new → ((c : CoreTop) → made ≡ Ok c → known ≡ js) → Advances js m done (t ∷ left) r known after new left
added js m done t left (Ok c) (Ok u) known after new w a k ks n ts s =
    subst (λ known. SoFar ks n ts known after new left) (sym (k c refl)) (made_so js m done ks n ts js after new (t ∷ left) left w.last c s a w.shows (w.reaches left))
added js m done t left (Ok c) (Err f) known after new w a k ks n ts s = memory_free (TopsStop ks n ts) f a
added js m done t left (Err e) (Ok u) known after new w a k ks n ts s = absurd a
added js m done t left (Err e) (Err f) known after new w a k ks n ts s =
    subst (λ f. Refusing (TopsStop ks n ts) f) (sym a)
    (refused_along (λ f (h : TopStops js m t f). stops_so js m done ks n ts js h.counts (t ∷ left) (h.last ∷ left) f s (h.reaches left)
    (ap (λ p. first_top h.last left p (tops_step js h.counts left)) h.stop)) e w)
