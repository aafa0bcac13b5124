-- What a use of a macro becomes within the limits, as the code counts it.
use Rattle.std.proofs.Common.{◌≡◌, ℕ, ◌+◌, ◌-◌, ◌≤◌, ◌<◌, Bool, true, false, if◌then◌else◌, nat_eq, nat_lt, nat_le, Option, None, Some, Result, Ok, Err, refl, sym, ap, subst, ◌∙◌, arith}
use Rattle.std.proofs.lemmas.Bool.Decides.{nat_tests}
use Rattle.scheme_data.specs.declared.datum.Place.{Place}
use Rattle.scheme_data.specs.declared.datum.Datum.{Datum}
use Rattle.scheme_data.specs.declared.datum.LimitKind.TheVariants as limit
use Rattle.scheme_data.specs.Forms.{Form, Forms, atom, symbol, listed, dotted, vector, end, next, form, form_place, form_size, forms_size}
use Rattle.syntax_rules.specs.Trees.{Macro}
use Rattle.syntax_rules.specs.Uses.{used_once}
use Rattle.syntax_rules.specs.Answers.{HasMore, Expands}
use Rattle.syntax_rules.specs.declared.error.RulesErr.{RulesErr}
use Rattle.syntax_rules.specs.declared.error.RulesErr.TheVariants as rules_err
use Rattle.core_forms.specs.Bodies.{gives, fails, counted, within_limits, limited, used}
use Rattle.core_forms.specs.Code.{one_less, left_in, left_all, nests_in}
use Rattle.core_forms.specs.declared.counting.Counts.{Counts}
use Rattle.core_forms.specs.declared.error.ExpandErr.{ExpandErr}
use Rattle.core_forms.specs.declared.error.ExpandErr.TheVariants as fault
use Rattle.core_forms.proofs.Measures.{nests-is, none-in, none-all}
use Rattle.expansion_steps.specs.Heads.{refusal_of, spent_by}
use Rattle.expansion_steps.specs.Steps.{UsedAs, counted_within}

-- Numbers of data -----------------------------------------------------------------------

abbrev left_from : ℕ → ℕ → Option ℕ
left_from n size = if nat_le size n then Some (n - size) else None

none-left : (n a : ℕ) → nat_le a n ≡ false → None ≡ left_from n a
none-left n a e = rw e refl

some-left : (n a : ℕ) → nat_le a n ≡ true → Some (n - a) ≡ left_from n a
some-left n a e = rw e refl

more-left-by : (n a b : ℕ) (t : Bool) → nat_le b (n - a) ≡ t → nat_le a n ≡ true → left_from (n - a) b ≡ left_from n (a + b)
more-left-by n a b true e h = sym (some-left (n - a) b e) ∙ (ap (λ k. Some k) (omega arith) ∙ some-left n (a + b) (grind (arith, nat_tests)))
more-left-by n a b false e h = sym (none-left (n - a) b e) ∙ none-left n (a + b) (grind (arith, nat_tests))

more-left : (n a b : ℕ) → nat_le a n ≡ true → left_from (n - a) b ≡ left_from n (a + b)
more-left n a b h = more-left-by n a b (nat_le b (n - a)) refl h

one-left-by : (n : ℕ) (t : Bool) → nat_eq n 0 ≡ t → one_less (Some n) ≡ left_from n 1
one-left-by n true e = rw e (none-left n 1 (grind (arith, nat_tests)))
one-left-by n false e = rw e (some-left n 1 (grind (arith, nat_tests)))

one-left : (n : ℕ) → one_less (Some n) ≡ left_from n 1
one-left n = one-left-by n (nat_eq n 0) refl

all-behind : (n a : ℕ) (ds : Forms) (t : Bool) → nat_le a n ≡ t → left_all (Some (n - a)) ds ≡ left_from (n - a) (forms_size ds) → left_all (left_from n a) ds ≡ left_from n (a + forms_size ds)
all-behind n a ds true e h = rw e (h ∙ more-left n a (forms_size ds) e)
all-behind n a ds false e h = rw e (none-all ds ∙ none-left n (a + forms_size ds) (grind (arith, nat_tests)))

one-behind : (n a : ℕ) (d : Form) (t : Bool) → nat_le a n ≡ t → left_in (Some (n - a)) d ≡ left_from (n - a) (form_size d) → left_in (left_from n a) d ≡ left_from n (a + form_size d)
one-behind n a d true e h = rw e (h ∙ more-left n a (form_size d) e)
one-behind n a d false e h = rw e (none-in d ∙ none-left n (a + form_size d) (grind (arith, nat_tests)))

mutual
  pub left-is : (n : ℕ) (d : Form) → left_in (Some n) d ≡ left_from n (form_size d)
  left-is n (atom at a) = one-left n
  left-is n (symbol at x m) = one-left n
  left-is n (listed at ds) = ap (λ o. left_all o ds) (one-left n) ∙ all-behind n 1 ds (nat_le 1 n) refl (all-left-is (n - 1) ds)
  left-is n (dotted at ds d) =
      ap (λ o. left_in (left_all o ds) d) (one-left n) ∙ (ap (λ o. left_in o d) (all-behind n 1 ds (nat_le 1 n) refl (all-left-is (n - 1) ds))
      ∙ (one-behind n (1 + forms_size ds) d (nat_le (1 + forms_size ds) n) refl (left-is (n - (1 + forms_size ds)) d) ∙ ap (left_from n) (omega arith)))
  left-is n (vector at ds) = ap (λ o. left_all o ds) (one-left n) ∙ all-behind n 1 ds (nat_le 1 n) refl (all-left-is (n - 1) ds)

  pub all-left-is : (n : ℕ) (ds : Forms) → left_all (Some n) ds ≡ left_from n (forms_size ds)
  all-left-is n end = ap (λ k. Some k) (omega arith) ∙ some-left n 0 (grind (arith, nat_tests))
  all-left-is n (next d ds) = ap (λ o. left_all o ds) (left-is n d) ∙ all-behind n (form_size d) ds (nat_le (form_size d) n) refl (all-left-is (n - form_size d) ds)

pub has-size : (d : Form) → 1 ≤ form_size d
has-size (atom at a) = omega arith
has-size (symbol at x m) = omega arith
has-size (listed at ds) = omega arith
has-size (dotted at ds d) = omega arith
has-size (vector at ds) = omega arith

-- Limits --------------------------------------------------------------------------------

-- what a fitting number leaves
record Leaves (left l size : ℕ) : Type 0 where
  fits : nat_le size left ≡ true
  is : l ≡ left - size

leaves-by : (left l size : ℕ) (t : Bool) → nat_le size left ≡ t → Some l ≡ left_from left size → Leaves left l size
leaves-by left l size true e h = record { fits = e; is = cc (some-left left size e) }
leaves-by left l size false e h = absurd (cc (none-left left size e))

leaves : (left l : ℕ) (d : Form) → Some l ≡ left_in (Some left) d → Leaves left l (form_size d)
leaves left l d h = leaves-by left l (form_size d) (nat_le (form_size d) left) refl (h ∙ left-is left d)

overfull-by : (left size : ℕ) (t : Bool) → nat_le size left ≡ t → None ≡ left_from left size → nat_le size left ≡ false
overfull-by left size true e h = absurd (cc (some-left left size e))
overfull-by left size false e h = e

overfull : (left : ℕ) (d : Form) → None ≡ left_in (Some left) d → nat_le (form_size d) left ≡ false
overfull left d h = overfull-by left (form_size d) (nat_le (form_size d) left) refl (h ∙ left-is left d)

pub too-many : (left : ℕ) (n : Counts) (d : Form) → None ≡ left_in (Some left) d → counted_within left n d ≡ fails (fault.Limit limit.Filled)
too-many left n d h = rw (overfull left d h) refl

pub too-deep : (left l : ℕ) (n : Counts) (d : Form) → Some l ≡ left_in (Some left) d → false ≡ nests_in 1000 d → counted_within left n d ≡ fails (fault.Limit limit.Depth)
too-deep left l n d h deep = rw ((leaves left l d h).fits, sym (deep ∙ nests-is 1000 d)) refl

counted-as : (n : Counts) (d : Form) (filled : ℕ) → n.filled + form_size d ≡ filled → counted n d ≡ record { expansions = n.expansions + 1; filled = filled; names = n.names }
counted-as n d filled h = ap (λ k. record { expansions = n.expansions + 1; filled = k; names = n.names }) h

pub fits-well : (left l : ℕ) (n : Counts) (d : Form) → Some l ≡ left_in (Some left) d → true ≡ nests_in 1000 d → left ≡ 1000000 - n.filled
    → counted_within left n d ≡ gives (record { expansions = n.expansions + 1; filled = 1000000 - l; names = n.names }) d
fits-well left l n d h flat e =
    let p = leaves left l d h in
    let s = has-size d in
    let fit : form_size d ≤ left = grind (arith, nat_tests, p.fits) in
    rw (p.fits, sym (flat ∙ nests-is 1000 d)) (ap (λ m. gives m d) (counted-as n d (1000000 - l) (omega (arith, p.is))))

pub rest-fits : (left l : ℕ) (d : Form) → Some l ≡ left_in (Some left) d → l ≤ left
rest-fits left l d h = omega (arith, (leaves left l d h).is)

-- within the limits of uses, what may still be made decides
pub within-rest : (left : ℕ) (n : Counts) (d : Form) → n.expansions < 20000 → left ≡ 1000000 - n.filled → within_limits n d ≡ counted_within left n d
within-rest left n d h e =
    let s = has-size d in
    let uses : nat_lt n.expansions 20000 ≡ true = grind (arith, nat_tests) in
    let same : nat_le (n.filled + form_size d) 1000000 ≡ nat_le (form_size d) left = grind (arith, nat_tests) in
    rw (uses, same) refl

-- Uses ----------------------------------------------------------------------------------

marked-at : (k : Macro) (d : Form) (mark expansions : ℕ) (o : Option Form) → mark ≡ expansions + 1 → used_once k (form_place d) mark d ≡ o → used_once k (form_place d) (expansions + 1) d ≡ o
marked-at k d mark expansions o e h = ap (λ m. used_once k (form_place d) m d) (sym e) ∙ h

pub counted-use : (k : Macro) (n m : Counts) (d : Form) (e : Form) (mark left : ℕ) (res : Result Datum ExpandErr) → n.expansions < 20000 → left ≡ 1000000 - n.filled → mark ≡ n.expansions + 1
    → used_once k (form_place d) mark d ≡ Some e → UsedAs (counted_within left n e) n res m → UsedAs (used k n d) n res m
counted-use k n m d e mark left res h l p o u =
    subst (λ u. UsedAs u n res m) (sym (ap (limited n (form_place d)) (marked-at k d mark n.expansions (Some e) p o) ∙ within-rest left n e h l)) u

no-more : (n : Counts) (d : Form) → 20000 ≤ n.expansions → within_limits n d ≡ fails (fault.Limit limit.Expansions)
no-more n d h = let uses : nat_lt n.expansions 20000 ≡ false = grind (arith, nat_tests) in rw uses refl

spent-more : (n : Counts) (at : Place) (most : ℕ) (o : Option Form) → 20000 ≤ n.expansions → HasMore most o → limited n at o ≡ fails (fault.Limit limit.Expansions)
spent-more n at most None h o = absurd o
spent-more n at most (Some d) h o = no-more n d h

spent-limit : (n : Counts) (at : Place) (most : ℕ) (o : Option Form) (made : Result Datum RulesErr) → 20000 ≤ n.expansions → Expands o at most made → UsedAs (limited n at o) n (Err (spent_by made)) n
spent-limit n at most o (Ok d) h x = (ap (limited n at) x.0 ∙ no-more n (form d) h, refl)
spent-limit n at most o (Err (rules_err.NoRule p)) h x = (ap (limited n at) x.1 ∙ ap (λ p. fails (fault.NoRule p)) (sym x.0), refl)
spent-limit n at most o (Err (rules_err.Limit kind)) h x = (spent-more n at most o h x.1, refl)
spent-limit n at most o (Err rules_err.Memory) h x = tt
spent-limit n at most o (Err (rules_err.BadRules p)) h x = absurd x

pub spent-use : (k : Macro) (n : Counts) (d : Form) (mark most : ℕ) (made : Result Datum RulesErr) (e : ExpandErr) → 20000 ≤ n.expansions → mark ≡ n.expansions + 1
    → Expands (used_once k (form_place d) mark d) (form_place d) most made → e ≡ spent_by made → UsedAs (used k n d) n (Err e) n
spent-use k n d mark most made e h p x s =
    subst (λ e. UsedAs (used k n d) n (Err e) n) (sym s) (spent-limit n (form_place d) most (used_once k (form_place d) (n.expansions + 1) d) made h
    (subst (λ m. Expands (used_once k (form_place d) m d) (form_place d) most made) p x))

more-than : (n : Counts) (d : Form) (left : ℕ) → n.expansions < 20000 → left ≡ 1000000 - n.filled → left < form_size d → within_limits n d ≡ fails (fault.Limit limit.Filled)
more-than n d left h e more =
    let full : nat_le (form_size d) left ≡ false = grind (arith, nat_tests) in
    within-rest left n d h e ∙ rw full refl

more-made : (n : Counts) (at : Place) (left : ℕ) (o : Option Form) → n.expansions < 20000 → left ≡ 1000000 - n.filled → HasMore left o → limited n at o ≡ fails (fault.Limit limit.Filled)
more-made n at left None h e o = absurd o
more-made n at left (Some d) h e o = more-than n d left h e o

refused-limit : (n : Counts) (at : Place) (left : ℕ) (o : Option Form) (f : RulesErr) → n.expansions < 20000 → left ≡ 1000000 - n.filled → Expands o at left (Err f)
    → UsedAs (limited n at o) n (Err (refusal_of f)) n
refused-limit n at left o (rules_err.NoRule p) h e x = (ap (limited n at) x.1 ∙ ap (λ p. fails (fault.NoRule p)) (sym x.0), refl)
refused-limit n at left o (rules_err.Limit kind) h e x = (more-made n at left o h e x.1 ∙ ap (λ kind. fails (fault.Limit kind)) (sym x.0), refl)
refused-limit n at left o rules_err.Memory h e x = tt
refused-limit n at left o (rules_err.BadRules p) h e x = absurd x

pub refused-use : (k : Macro) (n : Counts) (d : Form) (mark left : ℕ) (f : RulesErr) (e : ExpandErr) → n.expansions < 20000 → left ≡ 1000000 - n.filled → mark ≡ n.expansions + 1
    → Expands (used_once k (form_place d) mark d) (form_place d) left (Err f) → e ≡ refusal_of f → UsedAs (used k n d) n (Err e) n
refused-use k n d mark left f e h l p x s =
    subst (λ e. UsedAs (used k n d) n (Err e) n) (sym s) (refused-limit n (form_place d) left (used_once k (form_place d) (n.expansions + 1) d) f h l
    (subst (λ m. Expands (used_once k (form_place d) m d) (form_place d) left (Err f)) p x))
