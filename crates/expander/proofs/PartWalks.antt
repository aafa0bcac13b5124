-- The walk over the parts of a core form.
use Rattle.std.proofs.Common.{◌≡◌, ℕ, zero, suc, ◌-◌, ◌+◌, ◌≤◌, List, [], ◌∷◌, ◌++◌, map, Some, Result, Ok, Err, refl, sym, ap, ◌∙◌, subst, arith, length, drop}
use Rattle.scheme_data.specs.declared.datum.Place.{Place}
use Rattle.syntax_rules.specs.Trees.{Macro}
use Rattle.core_forms.specs.Scope.{Marked, marked, entered}
use Rattle.core_forms.specs.declared.core_form.Binder.{Binder}
use Rattle.core_forms.specs.declared.counting.Counts.{Counts}
use Rattle.core_forms.specs.declared.core_form.CoreExpr.{CoreExpr}
use Rattle.core_forms.specs.declared.error.ExpandErr.{ExpandErr}
use Rattle.core_forms.specs.declared.error.ExpandErr.TheVariants as fault
use Rattle.core_forms.specs.declared.work.Part.{Part}
use Rattle.core_forms.specs.declared.work.Lists.{Lists}
use Rattle.core_forms.specs.declared.work.Lists.TheVariants as lists
use Rattle.core_forms.specs.Mid.{Head, made, leaf, trees_then, tree, Mid, node, Parts, none, part, parts_nesting, made_of, more_of, finished, all_finished}
use Rattle.core_forms.specs.Rewriting.{step, steps, Reaches, here, StopsAt, Becomes, Halts, Walked}
use Rattle.core_forms.specs.Code.{OkOrMemory}
use Rattle.core_forms.specs.Working.{lists_of, work_mid, parts_then}
use Rattle.expander.specs.Walks.{Done, done_then, Shown, SoFar, Fits}
use Rattle.expander.proofs.MidSteps.{onward, stops_later, halts_along, in_node, in_part, in_rest, stops_in_node, stops_in_part, stops_in_rest}

pub shown_last : (ds : List Done) (cs : List CoreExpr) (d : Done) (c : CoreExpr) → Shown ds cs → finished d.mid ≡ Some (tree c) → Shown (ds ++ d ∷ []) (cs ++ c ∷ [])
shown_last [] [] d c h e = (e, tt)
shown_last [] (b ∷ cs) d c h e = absurd h
shown_last (a ∷ ds) [] d c h e = absurd h
shown_last (a ∷ ds) (b ∷ cs) d c h e = (h.0, shown_last ds cs d c h.1 e)

pub done_last : (ds : List Done) (w : ℕ) (xs : List Binder) (m : Mid) (ps : Parts) → done_then ds (part w xs m ps) ≡ done_then (ds ++ record { lists = w; binders = xs; mid = m } ∷ []) ps
done_last [] w xs m ps = refl
done_last (d ∷ ds) w xs m ps = ap (part d.lists d.binders d.mid) (done_last ds w xs m ps)

pub done_all : (ds : List Done) (cs : List CoreExpr) → Shown ds cs → all_finished (done_then ds none) ≡ Some (trees_then (map tree cs) leaf)
done_all [] [] h = refl
done_all [] (c ∷ cs) h = absurd h
done_all (d ∷ ds) [] h = absurd h
done_all (d ∷ ds) (c ∷ cs) h = ap (λ o. more_of o (all_finished (done_then ds none))) h.0 ∙ ap (more_of (Some (tree c))) (done_all ds cs h.1)

module _ (ks : List Macro) (room : ℕ) (s : List Marked) where
  pub behind_done : (ds : List Done) (cs : List CoreExpr) → Shown ds cs → {n m : Counts} {ps qs : Parts} → Reaches Parts (steps ks room s) n ps m qs
      → Reaches Parts (steps ks room s) n (done_then ds ps) m (done_then ds qs)
  behind_done [] [] h r = r
  behind_done [] (c ∷ cs) h r = absurd h
  behind_done (d ∷ ds) [] h r = absurd h
  behind_done (d ∷ ds) (c ∷ cs) h r = in_rest ks room s d.lists d.binders d.mid (tree c) h.0 (behind_done ds cs h.1 r)

  pub stops_behind : (ds : List Done) (cs : List CoreExpr) → Shown ds cs → {n : Counts} {ps : Parts} {f : ExpandErr} → StopsAt Parts (steps ks room s) n ps f
      → StopsAt Parts (steps ks room s) n (done_then ds ps) f
  stops_behind [] [] h t = t
  stops_behind [] (c ∷ cs) h t = absurd h
  stops_behind (d ∷ ds) [] h t = absurd h
  stops_behind (d ∷ ds) (c ∷ cs) h t = stops_in_rest ks room s d.lists d.binders d.mid (tree c) h.0 (stops_behind ds cs h.1 t)

pub at_start : (ks : List Macro) (room : ℕ) (s : List Marked) (n : Counts) (ps : Parts) (cs : List CoreExpr) → cs ≡ [] → SoFar ks room s n ps n ps cs
at_start ks room s n ps cs e = subst (λ (cs : List CoreExpr). SoFar ks room s n ps n ps cs) (sym e) (record { done = []; shown = tt; reaches = here })

-- the first part that is left is walked
pub one_more : (ks : List Macro) (room : ℕ) (s : List Marked) (n : Counts) (whole : Parts) (m k : Counts) (w : ℕ) (xs : List Binder) (a : Mid) (left : Parts) (cs new : List CoreExpr) (c : CoreExpr)
    → SoFar ks room s n whole m (part w xs a left) cs → Becomes ks (room - w) (entered xs s) m a (tree c) k → new ≡ cs ++ c ∷ [] → SoFar ks room s n whole k left new
one_more ks room s n whole m k w xs a left cs new c p b e =
    let d : Done = record { lists = w; binders = xs; mid = b.last } in
    let r : Reaches Parts (steps ks room s) n whole k (done_then p.done (part w xs b.last left)) = onward p.reaches (behind_done ks room s p.done cs p.shown (in_part ks room s w xs left b.reaches)) in
    subst (λ (cs : List CoreExpr). SoFar ks room s n whole k left cs) (sym e) (record {
      done = p.done ++ d ∷ [];
      shown = shown_last p.done cs d c p.shown b.shows;
      reaches = subst (λ (ps : Parts). Reaches Parts (steps ks room s) n whole k ps) (done_last p.done w xs b.last left) r;
    })

-- where the walk over that part halts, so does the whole
pub parts_halt : (ks : List Macro) (room : ℕ) (s : List Marked) (n : Counts) (whole : Parts) (m : Counts) (w : ℕ) (xs : List Binder) (a : Mid) (left : Parts) (cs : List CoreExpr) (f : ExpandErr)
    → SoFar ks room s n whole m (part w xs a left) cs → Halts Mid (step ks (room - w) (entered xs s)) m a f → Halts Parts (steps ks room s) n whole f
parts_halt ks room s n whole m w xs a left cs f p t =
    halts_along (λ g u. stops_later p.reaches (stops_behind ks room s p.done cs p.shown (stops_in_part ks room s w xs left u))) f t

-- and where the rest halts
pub rest_halts : (ks : List Macro) (room : ℕ) (s : List Marked) (n : Counts) (whole : Parts) (m : Counts) (left : Parts) (cs : List CoreExpr) (f : ExpandErr)
    → SoFar ks room s n whole m left cs → Halts Parts (steps ks room s) m left f → Halts Parts (steps ks room s) n whole f
rest_halts ks room s n whole m left cs f p t = halts_along (λ g u. stops_later p.reaches (stops_behind ks room s p.done cs p.shown u)) f t

pub rest_moves : (ks : List Macro) (room : ℕ) (s : List Marked) (n : Counts) (whole : Parts) (m k : Counts) (left qs : Parts) (cs : List CoreExpr)
    → SoFar ks room s n whole m left cs → Reaches Parts (steps ks room s) m left k qs → SoFar ks room s n whole k qs cs
rest_moves ks room s n whole m k left qs cs p r = record { done = p.done; shown = p.shown; reaches = onward p.reaches (behind_done ks room s p.done cs p.shown r) }

pub node_halts : (ks : List Macro) (room : ℕ) (s : List Marked) (n : Counts) (ps : Parts) (at : Place) (h : Head) (f : ExpandErr) → Halts Parts (steps ks room s) n ps f → Halts Mid (step ks room s) n (node at h ps) f
node_halts ks room s n ps at h f t = halts_along (λ g u. stops_in_node ks room s at h u) f t

-- when none is left, the core form of these stands there
pub node_walked : (ks : List Macro) (room : ℕ) (s : List Marked) (n : Counts) (ps : Parts) (m : Counts) (cs : List CoreExpr) (at : Place) (h : Head) (r : Result CoreExpr ExpandErr)
    → SoFar ks room s n ps m none cs → OkOrMemory r (λ c. tree c ≡ made at h (trees_then (map tree cs) leaf)) → Walked ks room s n (node at h ps) r m
node_walked ks room s n ps m cs at h (Ok c) p e = record {
  last = node at h (done_then p.done none);
  reaches = in_node ks room s at h p.reaches;
  shows = ap (made_of at h) (done_all p.done cs p.shown) ∙ ap Some (sym e);
}
node_walked ks room s n ps m cs at h (Err fault.Memory) p e = tt
node_walked ks room s n ps m cs at h (Err (fault.BadRules p2)) p e = absurd e
node_walked ks room s n ps m cs at h (Err (fault.NoRule p2)) p e = absurd e
node_walked ks room s n ps m cs at h (Err (fault.Form p2)) p e = absurd e
node_walked ks room s n ps m cs at h (Err (fault.Limit k)) p e = absurd e

pub walked_more : (ks : List Macro) (room : ℕ) (s : List Marked) (n m after : Counts) (a b : Mid) (r : Result CoreExpr ExpandErr) → Reaches Mid (step ks room s) n a m b → Walked ks room s m b r after → Walked ks room s n a r after
walked_more ks room s n m after a b (Ok c) q h = record { last = h.last; reaches = onward q h.reaches; shows = h.shows }
walked_more ks room s n m after a b (Err f) q h = halts_along (λ g t. stops_later q t) f h

lists_some : (l : Lists) → 1 ≤ lists_of l
lists_some lists.One = omega arith
lists_some lists.Three = omega arith

-- Parts of the code ---------------------------------------------------------------------

-- the lists of the parts of a node that fits
pub parts_fit : (room : ℕ) (xs : List Binder) (ps : List Part) (left : Parts) → parts_nesting (parts_then xs ps left) ≤ room → Fits room ps × (parts_nesting left ≤ room)
parts_fit room xs [] left h = (tt, h)
parts_fit room xs (p ∷ ps) left h =
    let rest_of : Fits room ps × (parts_nesting left ≤ room) = parts_fit room xs ps left (omega (arith, h)) in
    ((omega (arith, h), rest_of.0), rest_of.1)

one-more : (n m : ℕ) → n + suc m ≡ suc n + m
one-more n m = omega arith

pub entered-length : (xs : List Binder) (s : List Marked) → length (entered xs s) ≡ length xs + length s
entered-length [] s = omega arith
entered-length (x ∷ xs) s = entered-length xs (marked x ∷ s) ∙ one-more (length xs) (length s)

drop-more : (n : ℕ) (l : List Marked) (x : Marked) (s : List Marked) → drop n l ≡ x ∷ s → drop (suc n) l ≡ s
drop-more zero [] x s e = absurd (cc)
drop-more zero (y ∷ l) x s e = cc
drop-more (suc n) [] x s e = absurd (cc)
drop-more (suc n) (y ∷ l) x s e = drop-more n l x s e

pub entered-drop : (xs : List Binder) (s : List Marked) → drop (length xs) (entered xs s) ≡ s
entered-drop [] s = refl
entered-drop (x ∷ xs) s = drop-more (length xs) (entered xs (marked x ∷ s)) (marked x) s (entered-drop xs (marked x ∷ s))

-- the first part is walked within the names of all
pub parts_more : (ks : List Macro) (room : ℕ) (s t : List Marked) (xs : List Binder) (n : Counts) (whole left : Parts) (m k : Counts) (old new : List Part) (p : Part) (w : ℕ) (cs more : List CoreExpr) (c : CoreExpr)
    → t ≡ entered xs s → w ≡ lists_of p.lists → SoFar ks room s n whole m (parts_then xs old left) cs → old ≡ p ∷ new → Walked ks (room - w) t m (work_mid p.work) (Ok c) k → more ≡ cs ++ c ∷ []
    → SoFar ks room s n whole k (parts_then xs new left) more
parts_more ks room s t xs n whole left m k old new p w cs more c e i q cut b g =
    one_more ks room s n whole m k (lists_of p.lists) xs (work_mid p.work) (parts_then xs new left) cs more c
    (subst (λ (ps : List Part). SoFar ks room s n whole m (parts_then xs ps left) cs) cut q)
    (subst (λ (w : ℕ). Becomes ks (room - w) (entered xs s) m (work_mid p.work) (tree c) k) i (subst (λ (t : List Marked). Becomes ks (room - w) t m (work_mid p.work) (tree c) k) e b)) g

pub parts_stop : (ks : List Macro) (room : ℕ) (s t : List Marked) (xs : List Binder) (n : Counts) (whole left : Parts) (m k : Counts) (old new : List Part) (p : Part) (w : ℕ) (cs : List CoreExpr) (f : ExpandErr)
    → t ≡ entered xs s → w ≡ lists_of p.lists → SoFar ks room s n whole m (parts_then xs old left) cs → old ≡ p ∷ new → Walked ks (room - w) t m (work_mid p.work) (Err f) k
    → Halts Parts (steps ks room s) n whole f
parts_stop ks room s t xs n whole left m k old new p w cs f e i q cut b =
    parts_halt ks room s n whole m (lists_of p.lists) xs (work_mid p.work) (parts_then xs new left) cs f
    (subst (λ (ps : List Part). SoFar ks room s n whole m (parts_then xs ps left) cs) cut q)
    (subst (λ (w : ℕ). Halts Mid (step ks (room - w) (entered xs s)) m (work_mid p.work) f) i (subst (λ (t : List Marked). Halts Mid (step ks (room - w) t) m (work_mid p.work) f) e b))

pub no_parts : (ks : List Macro) (room : ℕ) (s : List Marked) (xs : List Binder) (n : Counts) (whole left : Parts) (m : Counts) (old : List Part) (cs : List CoreExpr)
    → SoFar ks room s n whole m (parts_then xs old left) cs → old ≡ [] → SoFar ks room s n whole m left cs
no_parts ks room s xs n whole left m old cs q e = subst (λ (ps : List Part). SoFar ks room s n whole m (parts_then xs ps left) cs) e q

pub fits_top : (room : ℕ) (old new : List Part) (p : Part) → Fits room old → old ≡ p ∷ new → (lists_of p.lists ≤ room) × Fits room new
fits_top room old new p h e = subst (λ (ps : List Part). Fits room ps) e h

pub some_lists : (p : Part) → 1 ≤ lists_of p.lists
some_lists p = lists_some p.lists
