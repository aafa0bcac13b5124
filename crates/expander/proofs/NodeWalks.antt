-- The walk over the parts of a node, those outside of its names and those within.
use Rattle.std.proofs.Common.{◌≡◌, ℕ, ◌≤◌, List, Result, Ok, Err, OnOk, refl, ap, ◌∙◌, subst, arith, length, drop, [], ◌∷◌}
use Rattle.scheme_data.specs.declared.datum.Place.{Place}
use Rattle.syntax_rules.specs.Trees.{Macro}
use Rattle.core_forms.specs.Scope.{Marked, entered}
use Rattle.core_forms.specs.declared.core_form.Binder.{Binder}
use Rattle.core_forms.specs.declared.core_form.CoreExpr.{CoreExpr}
use Rattle.core_forms.specs.declared.counting.Counts.{Counts}
use Rattle.core_forms.specs.declared.error.ExpandErr.{ExpandErr}
use Rattle.core_forms.specs.declared.work.Part.{Part}
use Rattle.core_forms.specs.Mid.{Parts, none, rest}
use Rattle.core_forms.specs.Code.{data_of}
use Rattle.scheme_data.specs.declared.datum.Datum.{Datum}
use Rattle.core_forms.specs.Working.{parts_then}
use Rattle.expander.specs.Walks.{forms_left, Fits, SoFar, Further, PartsWalked}
use Rattle.expander.proofs.PartWalks.{entered-length, entered-drop}

pub on_any : {A : Type 0} (r : Result A ExpandErr) (P : Type 0) → P → OnOk r P
on_any (Ok x) P p = p
on_any (Err f) P p = tt

-- the inner parts are walked where the same macros are known and the same was counted
pub inner_on : (ks ks2 : List Macro) (room : ℕ) (s scope : List Marked) (n k k2 m : Counts) (xs : List Binder) (whole : Parts) (inner : List Part) (r : Result Unit ExpandErr) (cs more : List CoreExpr)
    → ks2 ≡ ks → k2 ≡ k → scope ≡ entered xs s → SoFar ks room s n whole k (parts_then xs inner none) cs → PartsWalked ks2 room scope k2 inner cs r more m → Further ks room s n whole none more r m
inner_on ks ks2 room s scope n k k2 m xs whole inner r cs more e g h p w =
    let w2 : PartsWalked ks room scope k inner cs r more m = subst (λ (ks : List Macro). PartsWalked ks room scope k inner cs r more m) e (subst (λ (k : Counts). PartsWalked ks2 room scope k inner cs r more m) g w) in
    w2 s xs n whole none h p

-- as many names are let go as were entered
pub leave_fits : (count : ℕ) (xs : List Binder) (s scope : List Marked) → count ≡ length xs → scope ≡ entered xs s → count ≤ length scope
leave_fits count xs s scope e h = omega (arith, e, ap length h, entered-length xs s)

pub left_scope : (count : ℕ) (xs : List Binder) (s scope new : List Marked) → count ≡ length xs → scope ≡ entered xs s → new ≡ drop count scope → new ≡ s
left_scope count xs s scope new e h g = g ∙ ap (λ (n : ℕ). drop n scope) e ∙ ap (drop (length xs)) h ∙ entered-drop xs s

pub fits_more : (room : ℕ) (ps : List Part) → 3 ≤ room → Fits 3 ps → Fits room ps
fits_more room [] l h = tt
fits_more room (p ∷ ps) l h = (omega (arith, l, h.0), fits_more room ps l h.1)

pub ends_there : (ks : List Macro) (room : ℕ) (s : List Marked) (n : Counts) (whole : Parts) (at : Place) (m : Counts) (cs : List CoreExpr) (left : List Datum) → left ≡ []
    → SoFar ks room s n whole m (forms_left at left) cs → SoFar ks room s n whole m none cs
ends_there ks room s n whole at m cs left e q = subst (λ (left : List Datum). SoFar ks room s n whole m (forms_left at left) cs) e q

pub goes_on : (ks : List Macro) (room : ℕ) (s : List Marked) (n : Counts) (whole : Parts) (at : Place) (m : Counts) (cs : List CoreExpr) (left : List Datum) → (left ≡ [] → ⊥)
    → SoFar ks room s n whole m (forms_left at left) cs → SoFar ks room s n whole m (rest at (data_of left)) cs
goes_on ks room s n whole at m cs [] e q = absurd (e refl)
goes_on ks room s n whole at m cs (d ∷ ds) e q = q
