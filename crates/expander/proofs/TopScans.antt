-- A scan of a module, form by form.
use Rattle.std.proofs.Common.{◌≡◌, ℕ, ◌+◌, ◌<◌, ◌≤◌, Bool, true, false, not, if◌then◌else◌, ◌&&◌, List, [], codes, length, drop, get_or, Result, Err, refl, sym, ap, ◌∙◌, subst}
use Rattle.std.specs.List.{list_any}
use Rattle.std.proofs.lemmas.List.{at_drop_more}
use Rattle.scheme_data.specs.declared.datum.Datum.{Datum}
use Rattle.scheme_data.specs.declared.datum.Datum.TheVariants as datum
use Rattle.scheme_data.specs.declared.datum.Place.{Place}
use Rattle.scheme_data.specs.Forms.{Form, Forms, atom, symbol, listed, dotted, vector, end, next, form, form_says}
use Rattle.syntax_rules.specs.Macros.{macro_of}
use Rattle.core_forms.specs.Modules.{Scanned, scanned, bad, with_top, with_rules, scan, scan_all, scan_module, declares, declare}
use Rattle.core_forms.specs.Modules as modules
use Rattle.core_forms.specs.declared.error.ExpandErr.{ExpandErr}
use Rattle.core_forms.specs.declared.error.ExpandErr.TheVariants as fault
use Rattle.syntax_rules.specs.declared.rules.Rules.{Rules}
use Rattle.expander.specs.Answers.{module_of}
use Rattle.expander.specs.declared.scanning.Top.{Top}
use Rattle.expansion_steps.specs.Heads.{macros_of}
use Rattle.expander.specs.Tops.{all_tops, ScansAs, FindsAs}
use Rattle.expander.proofs.WrittenForms.{rest_of, parted_list, declare_any}

-- Bad rules stay ------------------------------------------------------------------------

by_word : (c e : Bool) (x y z w : Scanned) → x ≡ w → y ≡ w → z ≡ w → (if c then x else (if e then y else z)) ≡ w
by_word true e x y z w f g h = f
by_word false true x y z w f g h = g
by_word false false x y z w f g h = h

mutual
  scan_bad : (begins : Bool) (d : Form) (p : Place) → scan begins d (bad p) ≡ bad p
  scan_bad begins (listed at (next word ds)) p =
      by_word (form_says word (codes "define-syntax")) (form_says word (codes "begin") && begins)
      (with_rules at (macro_of (listed at (next word ds))) (bad p)) (scan_all begins ds (bad p)) (with_top (modules.form (listed at (next word ds))) (bad p)) (bad p)
      refl (scan_all_bad begins ds p) refl
  scan_bad begins (listed at end) p = refl
  scan_bad begins (atom at a) p = refl
  scan_bad begins (symbol at x m) p = refl
  scan_bad begins (dotted at ds d) p = refl
  scan_bad begins (vector at ds) p = refl

  scan_all_bad : (begins : Bool) (ds : Forms) (p : Place) → scan_all begins ds (bad p) ≡ bad p
  scan_all_bad begins end p = refl
  scan_all_bad begins (next d ds) p = ap (scan_all begins ds) (scan_bad begins d p) ∙ scan_all_bad begins ds p

-- One form after another ----------------------------------------------------------------

rest_at : (begins : Bool) (ds : List Datum) (i : ℕ) (d : Datum) (s : Scanned) → i < length ds → d ≡ get_or ds i d
    → scan_all begins (module_of (drop i ds)) s ≡ scan_all begins (module_of (drop (i + 1) ds)) (scan begins (form d) s)
rest_at begins ds i d s l e =
    at_drop_more (λ ds. scan_all begins (module_of ds) s) ds i d l ∙ ap (λ x. scan_all begins (module_of (drop (i + 1) ds)) (scan begins (form x) s)) (sym e)

pub scan_on : (begins : Bool) (ds : List Datum) (i : ℕ) (d : Datum) (whole s new : Scanned) → whole ≡ scan_all begins (module_of (drop i ds)) s → i < length ds → d ≡ get_or ds i d
    → scan begins (form d) s ≡ new → whole ≡ scan_all begins (module_of (drop (i + 1) ds)) new
scan_on begins ds i d whole s new w l e h = w ∙ (rest_at begins ds i d s l e ∙ ap (scan_all begins (module_of (drop (i + 1) ds))) h)

pub scan_stops : (begins : Bool) (ds : List Datum) (i : ℕ) (d : Datum) (whole s new last : Scanned) (f : ExpandErr) → whole ≡ scan_all begins (module_of (drop i ds)) s
    → i < length ds → d ≡ get_or ds i d → ScansAs (scan begins (form d) s) (Err f) new → ScansAs whole (Err f) last
scan_stops begins ds i d whole s new last (fault.BadRules at) w l e h = scan_on begins ds i d whole s (bad at) w l e h ∙ scan_all_bad begins (module_of (drop (i + 1) ds)) at
scan_stops begins ds i d whole s new last (fault.NoRule at) w l e h = h
scan_stops begins ds i d whole s new last (fault.Form at) w l e h = h
scan_stops begins ds i d whole s new last (fault.Limit k) w l e h = h
scan_stops begins ds i d whole s new last fault.Memory w l e h = tt

-- A `begin` -----------------------------------------------------------------------------

spliced_is : (splices : Bool) (at : Place) (word : Form) (ds : Forms) (s : Scanned) → form_says word (codes "define-syntax") ≡ false → (form_says word (codes "begin") && splices) ≡ true
    → scan_all splices ds s ≡ scan splices (listed at (next word ds)) s
spliced_is splices at word ds s n y =
    sym (ap (λ c. if c then with_rules at (macro_of (listed at (next word ds))) s else (if form_says word (codes "begin") && splices then scan_all splices ds s else with_top (modules.form (listed at (next word ds))) s)) n
    ∙ ap (λ c. if c then scan_all splices ds s else with_top (modules.form (listed at (next word ds))) s) y)

pub spliced_scan : (splices : Bool) (at : Place) (ds xs : List Datum) (word : Datum) (s : Scanned) (r : Result (Unit {0}) ExpandErr) (new : Scanned) → xs ≡ ds → 1 ≤ length xs → word ≡ get_or xs 0 word
    → form_says (form word) (codes "define-syntax") ≡ false → (form_says (form word) (codes "begin") && splices) ≡ true
    → ScansAs (scan_all splices (module_of (rest_of xs)) s) r new → ScansAs (scan splices (form (datum.List at ds)) s) r new
spliced_scan splices at ds xs word s r new same l e n y h =
    subst (λ found. ScansAs found r new) (spliced_is splices at (form word) (module_of (rest_of xs)) s n y ∙ sym (ap (λ d. scan splices d s) (parted_list at ds xs word same l e))) h

-- A module ------------------------------------------------------------------------------

first_found : (ds : List Datum) (declared : Bool) (ms : List Rules) (ts : List Top) → declared ≡ list_any (λ d. declares (codes "begin") (form d)) ds → ms ≡ [] → ts ≡ []
    → scan_all (not declared) (module_of ds) (scanned (macros_of ms) (all_tops ts)) ≡ scan_module (module_of ds)
first_found ds declared ms ts e m t =
    ap (λ b. scan_all (not b) (module_of ds) (scanned (macros_of ms) (all_tops ts))) (e ∙ declare_any (codes "begin") ds)
    ∙ (ap (λ ms. scan_all (not (declare (codes "begin") (module_of ds))) (module_of ds) (scanned (macros_of ms) (all_tops ts))) m
    ∙ ap (λ ts. scan_all (not (declare (codes "begin") (module_of ds))) (module_of ds) (scanned [] (all_tops ts))) t)

pub scan_found : (ds : List Datum) (declared : Bool) (ms : List Rules) (ts : List Top) (new : Scanned) → declared ≡ list_any (λ d. declares (codes "begin") (form d)) ds → ms ≡ [] → ts ≡ []
    → scan_all (not declared) (module_of ds) (scanned (macros_of ms) (all_tops ts)) ≡ new → scan_module (module_of ds) ≡ new
scan_found ds declared ms ts new e m t h = sym (first_found ds declared ms ts e m t) ∙ h

pub scan_refused : (ds : List Datum) (declared : Bool) (ms : List Rules) (ts : List Top) (new : Scanned) (f : ExpandErr) → declared ≡ list_any (λ d. declares (codes "begin") (form d)) ds → ms ≡ [] → ts ≡ []
    → ScansAs (scan_all (not declared) (module_of ds) (scanned (macros_of ms) (all_tops ts))) (Err f) new → FindsAs (scan_module (module_of ds)) (Err f)
scan_refused ds declared ms ts new (fault.BadRules at) e m t h = scan_found ds declared ms ts (bad at) e m t h
scan_refused ds declared ms ts new (fault.NoRule at) e m t h = h
scan_refused ds declared ms ts new (fault.Form at) e m t h = h
scan_refused ds declared ms ts new (fault.Limit k) e m t h = h
scan_refused ds declared ms ts new fault.Memory e m t h = tt
