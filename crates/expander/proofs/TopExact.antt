-- The rewriting of a module has one end.
use Rattle.std.proofs.Common.{◌≡◌, List, Some, Result, Ok, Err, inl, inr, refl, sym, ap, ◌∙◌, subst}
use Rattle.scheme_data.specs.declared.datum.Place.{Place}
use Rattle.scheme_data.specs.Forms.{Forms}
use Rattle.syntax_rules.specs.Trees.{Macro}
use Rattle.core_forms.specs.Modules.{Top, TopTree, Scanned, scanned, bad, scan_module, TopProgress, rests, goes, ends, tops_step, TopsReach, finished_tops, start, Expands, StopsWith, IsRefused}
use Rattle.core_forms.specs.Modules as modules
use Rattle.core_forms.specs.declared.core_form.Core.{Core}
use Rattle.core_forms.specs.declared.counting.Counts.{Counts}
use Rattle.core_forms.specs.declared.error.ExpandErr.{ExpandErr}
use Rattle.core_forms.specs.declared.error.ExpandErr.TheVariants as fault
use Rattle.expander.specs.Answers.{core_trees, Answer, Gives, Refuses}
use Rattle.expander.specs.Tops.{FindsAs}
use Rattle.expander.specs.TopWalks.{TopsBecome, TopsStop, TopsWalked}
use Rattle.expander.proofs.TopSteps.{tops_still}

-- Ends ----------------------------------------------------------------------------------

abbrev GoesNowhere : TopProgress (List Top) → Type 0
GoesNowhere p = (js : List Macro) (m : Counts) (us : List Top) → p ≡ goes js m us → ⊥

rests_nowhere : (p : TopProgress (List Top)) → p ≡ rests → GoesNowhere p
rests_nowhere p e js m us g = let h : rests ≡ goes js m us = sym e ∙ g in absurd (cc)

ends_nowhere : (p : TopProgress (List Top)) (f : ExpandErr) → p ≡ ends f → GoesNowhere p
ends_nowhere p f e js m us g = let h : ends f ≡ goes js m us = sym e ∙ g in absurd (cc)

record SameEnd (js is : List Macro) (m k : Counts) (us vs : List Top) : Type 0 where
  macros : js ≡ is
  counts : m ≡ k
  tops : us ≡ vs

-- where two rewritings of the same forms end, they end alike
same_end : {ks js is : List Macro} {n m k : Counts} {ts us vs : List Top} → TopsReach ks n ts js m us → GoesNowhere (tops_step js m us) → TopsReach ks n ts is k vs → GoesNowhere (tops_step is k vs) → SameEnd js is m k us vs
same_end modules.here e modules.here h = record { macros = refl; counts = refl; tops = refl }
same_end modules.here e (modules.onto g q) h = absurd (e _ _ _ g)
same_end (modules.onto f r) e modules.here h = absurd (h _ _ _ f)
same_end (modules.onto {js = j1} {m = m1} {us = u1} f r) e (modules.onto {js = j2} {is = is} {m = m2} {k = k} {us = u2} {vs = vs} g q) h =
    let same : goes j1 m1 u1 ≡ goes j2 m2 u2 = sym f ∙ g in
    let macros : j1 ≡ j2 = cc in
    let counts : m1 ≡ m2 = cc in
    let tops : u1 ≡ u2 = cc in
    let back : TopsReach j1 m1 u1 is k vs =
    subst (λ (j : List Macro). TopsReach j m1 u1 is k vs) (sym macros) (subst (λ (m : Counts). TopsReach j2 m u1 is k vs) (sym counts) (subst (λ (u : List Top). TopsReach j2 m2 u is k vs) (sym tops) q)) in
    same_end r e back h

same_steps : {js is : List Macro} {m k : Counts} {us vs : List Top} → SameEnd js is m k us vs → tops_step js m us ≡ tops_step is k vs
same_steps {js} {is} {m} {k} {us} {vs} s = ap (λ (j : List Macro). tops_step j m us) s.macros ∙ (ap (λ (m : Counts). tops_step is m us) s.counts ∙ ap (λ (us : List Top). tops_step is k us) s.tops)

-- Modules -------------------------------------------------------------------------------

record SameScan (ks js : List Macro) (ts us : List Top) : Type 0 where
  macros : ks ≡ js
  tops : ts ≡ us

same_scan : (s : Scanned) (ks js : List Macro) (ts us : List Top) → s ≡ scanned ks ts → s ≡ scanned js us → SameScan ks js ts us
same_scan s ks js ts us e g = let h : scanned ks ts ≡ scanned js us = sym e ∙ g in record { macros = cc; tops = cc }

not_bad : (s : Scanned) (ks : List Macro) (ts : List Top) (at : Place) → s ≡ scanned ks ts → s ≡ bad at → ⊥
not_bad s ks ts at e g = let h : scanned ks ts ≡ bad at = sym e ∙ g in absurd (cc)

moved_start : (ks js : List Macro) (ts us : List Top) (is : List Macro) (k : Counts) (vs : List Top) → SameScan ks js ts us → TopsReach ks start ts is k vs → TopsReach js start us is k vs
moved_start ks js ts us is k vs s r = subst (λ (j : List Macro). TopsReach j start us is k vs) s.macros (subst (λ (ts : List Top). TopsReach ks start ts is k vs) s.tops r)

module _ (ds : Forms) where
  still_at : (us : List TopTree) (x : Expands ds us) → tops_step x.known x.counts x.last ≡ rests
  still_at us x = tops_still x.known x.counts x.last us x.shows

  one_end : (us vs : List TopTree) → Expands ds us → Expands ds vs → us ≡ vs
  one_end us vs x y =
      let p = same_end (moved_start x.macros y.macros x.tops y.tops x.known x.counts x.last (same_scan (scan_module ds) x.macros y.macros x.tops y.tops x.scans y.scans) x.reaches)
      (rests_nowhere (tops_step x.known x.counts x.last) (still_at us x)) y.reaches (rests_nowhere (tops_step y.known y.counts y.last) (still_at vs y)) in
      let h : Some us ≡ Some vs = sym x.shows ∙ (ap finished_tops p.tops ∙ y.shows) in cc

  not_both : (us : List TopTree) (f : ExpandErr) → Expands ds us → StopsWith ds f → ⊥
  not_both us f x y =
      let p = same_end (moved_start x.macros y.macros x.tops y.tops x.known x.counts x.last (same_scan (scan_module ds) x.macros y.macros x.tops y.tops x.scans y.scans) x.reaches)
      (rests_nowhere (tops_step x.known x.counts x.last) (still_at us x)) y.reaches (ends_nowhere (tops_step y.known y.counts y.last) f y.stop) in
      let h : rests ≡ ends f = sym (still_at us x) ∙ (same_steps p ∙ y.stop) in absurd (cc)

  one_stop : (f g : ExpandErr) → StopsWith ds f → StopsWith ds g → f ≡ g
  one_stop f g x y =
      let p = same_end (moved_start x.macros y.macros x.tops y.tops x.known x.counts x.last (same_scan (scan_module ds) x.macros y.macros x.tops y.tops x.scans y.scans) x.reaches)
      (ends_nowhere (tops_step x.known x.counts x.last) f x.stop) y.reaches (ends_nowhere (tops_step y.known y.counts y.last) g y.stop) in
      let h : ends f ≡ ends g = sym x.stop ∙ (same_steps p ∙ y.stop) in cc

  not_refused : (us : List TopTree) (f : ExpandErr) → Expands ds us → IsRefused ds f → ⊥
  not_refused us f x (inl b) = not_bad (scan_module ds) x.macros x.tops b.0 x.scans b.1
  not_refused us f x (inr y) = not_both us f x y

  same_bad : (at p : Place) → scan_module ds ≡ bad at → scan_module ds ≡ bad p → at ≡ p
  same_bad at p e g = let h : bad at ≡ bad p = sym e ∙ g in cc

  one_refusal : (f g : ExpandErr) → IsRefused ds f → IsRefused ds g → f ≡ g
  one_refusal f g (inl a) (inl b) = a.2 ∙ (ap fault.BadRules (same_bad a.0 b.0 a.1 b.1) ∙ sym b.2)
  one_refusal f g (inl a) (inr y) = absurd (not_bad (scan_module ds) y.macros y.tops a.0 y.scans a.1)
  one_refusal f g (inr x) (inl b) = absurd (not_bad (scan_module ds) x.macros x.tops b.0 x.scans b.1)
  one_refusal f g (inr x) (inr y) = one_stop f g x y

  pub gives : (r : Result Core ExpandErr) → Answer ds r → (us : List TopTree) → Expands ds us → Gives us r
  gives (Ok c) a us x = one_end (core_trees c) us a x
  gives (Err (fault.BadRules at)) a us x = not_refused us _ x a
  gives (Err (fault.NoRule at)) a us x = not_refused us _ x a
  gives (Err (fault.Form at)) a us x = not_refused us _ x a
  gives (Err (fault.Limit k)) a us x = not_refused us _ x a
  gives (Err fault.Memory) a us x = tt

  pub refuses : (r : Result Core ExpandErr) → Answer ds r → (f : ExpandErr) → IsRefused ds f → Refuses f r
  refuses (Ok c) a f x = not_refused (core_trees c) f a x
  refuses (Err (fault.BadRules at)) a f x = one_refusal _ f a x
  refuses (Err (fault.NoRule at)) a f x = one_refusal _ f a x
  refuses (Err (fault.Form at)) a f x = one_refusal _ f a x
  refuses (Err (fault.Limit k)) a f x = one_refusal _ f a x
  refuses (Err fault.Memory) a f x = tt

  -- what the steps come to, and a scan before them
  became : (ks : List Macro) (ts : List Top) (us : List TopTree) → scan_module ds ≡ scanned ks ts → TopsBecome ks start ts us → Expands ds us
  became ks ts us e b = record { macros = ks; tops = ts; known = b.known; counts = b.counts; last = b.last; scans = e; reaches = b.reaches; shows = b.shows }

  stopped : (ks : List Macro) (ts : List Top) (f : ExpandErr) → scan_module ds ≡ scanned ks ts → TopsStop ks start ts f → IsRefused ds f
  stopped ks ts f e b = inr (record { macros = ks; tops = ts; known = b.known; counts = b.counts; last = b.last; scans = e; reaches = b.reaches; stop = b.stop })

  walked_answer : (ks : List Macro) (ts : List Top) (r : Result Core ExpandErr) → scan_module ds ≡ scanned ks ts → TopsWalked ks start ts r → Answer ds r
  walked_answer ks ts (Ok c) e w = became ks ts (core_trees c) e w
  walked_answer ks ts (Err (fault.BadRules at)) e w = stopped ks ts _ e w
  walked_answer ks ts (Err (fault.NoRule at)) e w = stopped ks ts _ e w
  walked_answer ks ts (Err (fault.Form at)) e w = stopped ks ts _ e w
  walked_answer ks ts (Err (fault.Limit k)) e w = stopped ks ts _ e w
  walked_answer ks ts (Err fault.Memory) e w = tt

  pub answered : (ks js : List Macro) (n : Counts) (ts us : List Top) (r : Result Core ExpandErr) → scan_module ds ≡ scanned ks ts → js ≡ ks → n ≡ start → us ≡ ts → TopsWalked js n us r → Answer ds r
  answered ks js n ts us r e j c u w =
      walked_answer ks ts r e (subst (λ (j : List Macro). TopsWalked j start ts r) j (subst (λ (n : Counts). TopsWalked js n ts r) c (subst (λ (us : List Top). TopsWalked js n us r) u w)))

  pub scan_answer : (f : ExpandErr) → FindsAs (scan_module ds) (Err f) → Answer ds (Err f)
  scan_answer (fault.BadRules at) h = inl (at, h, refl)
  scan_answer (fault.NoRule at) h = absurd h
  scan_answer (fault.Form at) h = absurd h
  scan_answer (fault.Limit k) h = absurd h
  scan_answer fault.Memory h = tt
