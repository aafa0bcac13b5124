-- How many data there are, and how deep lists nest in them.
use Rattle.std.proofs.Common.{◌≡◌, List, ◌∷◌, drop, ℕ, ◌+◌, ◌-◌, max, Bool, true, false, ◌&&◌, nat_eq, nat_lt, nat_le, Option, None, Some, refl, sym, ap, ◌∙◌, arith}
use Rattle.std.proofs.lemmas.Bool.Decides.{nat_tests}
use Rattle.scheme_data.specs.declared.datum.Place.{Place}
use Rattle.scheme_data.specs.declared.datum.Datum.{Datum}
use Rattle.scheme_data.specs.declared.datum.Datum.TheViews as views
use Rattle.scheme_data.specs.Forms.{Form, Forms, form, atom, symbol, listed, dotted, vector, end, next, form_nesting, forms_nesting}
use Rattle.core_forms.specs.Code.{data_of, one_less, left_in, left_all, nests_in, all_nest_in}
use Rattle.core_forms.proofs.Views.{form-List, form-Dotted, form-Vector}

-- Nesting -------------------------------------------------------------------------------

zero-fits : (room : ℕ) → true ≡ nat_le 0 room
zero-fits room = grind (arith, nat_tests)

both-fit : (a b room : ℕ) → (nat_le a room && nat_le b room) ≡ nat_le (max a b) room
both-fit a b room = grind (arith, nat_tests)

one-more-fits : (n room : ℕ) → (nat_lt 0 room && nat_le n (room - 1)) ≡ nat_le (1 + n) room
one-more-fits n room = grind (arith, nat_tests)

mutual
  pub nests-is : (room : ℕ) (d : Form) → nests_in room d ≡ nat_le (form_nesting d) room
  nests-is room (atom at a) = zero-fits room
  nests-is room (symbol at x m) = zero-fits room
  nests-is room (listed at ds) = ap (λ b. nat_lt 0 room && b) (all-nest-is (room - 1) ds) ∙ one-more-fits (forms_nesting ds) room
  nests-is room (dotted at ds d) =
      ap (λ b. nat_lt 0 room && (b && nests_in (room - 1) d)) (all-nest-is (room - 1) ds)
      ∙ (ap (λ b. nat_lt 0 room && (nat_le (forms_nesting ds) (room - 1) && b)) (nests-is (room - 1) d)
      ∙ (ap (λ b. nat_lt 0 room && b) (both-fit (forms_nesting ds) (form_nesting d) (room - 1)) ∙ one-more-fits (max (forms_nesting ds) (form_nesting d)) room))
  nests-is room (vector at ds) = ap (λ b. nat_lt 0 room && b) (all-nest-is (room - 1) ds) ∙ one-more-fits (forms_nesting ds) room

  pub all-nest-is : (room : ℕ) (ds : Forms) → all_nest_in room ds ≡ nat_le (forms_nesting ds) room
  all-nest-is room end = zero-fits room
  all-nest-is room (next d ds) =
      ap (λ b. b && all_nest_in room ds) (nests-is room d)
      ∙ (ap (λ b. nat_le (form_nesting d) room && b) (all-nest-is room ds) ∙ both-fit (form_nesting d) (forms_nesting ds) room)

-- Numbers of data -----------------------------------------------------------------------

mutual
  pub none-in : (d : Form) → left_in None d ≡ None
  none-in (atom at a) = refl
  none-in (symbol at x m) = refl
  none-in (listed at ds) = none-all ds
  none-in (dotted at ds d) = ap (λ o. left_in o d) (none-all ds) ∙ none-in d
  none-in (vector at ds) = none-all ds

  pub none-all : (ds : Forms) → left_all None ds ≡ None
  none-all end = refl
  none-all (next d ds) = ap (λ o. left_all o ds) (none-in d) ∙ none-all ds

pub none-left : (d : Form) → None ≡ left_in (Some 0) d
none-left (atom at a) = refl
none-left (symbol at x m) = refl
none-left (listed at ds) = sym (none-all ds)
none-left (dotted at ds d) = sym (ap (λ o. left_in o d) (none-all ds) ∙ none-in d)
none-left (vector at ds) = sym (none-all ds)

pub none-left-of : (most : ℕ) (d : Form) → most ≡ 0 → None ≡ left_in (Some most) d
none-left-of most d e = rw e (none-left d)

one-off : (most : ℕ) (b : Bool) → nat_eq most 0 ≡ b → b ≡ false → one_less (Some most) ≡ Some (most - 1)
one-off most true e f = absurd (cc)
one-off most false e f = rw e refl

pub not-zero : (most : ℕ) → (most ≡ 0 → ⊥) → nat_eq most 0 ≡ false
not-zero most h = grind (arith, nat_tests)

pub list-left : (most : ℕ) (d : Datum) (at : Place) (ds now : List Datum) (o : Option ℕ) → nat_eq most 0 ≡ false → d ≡ views.List at ds → now ≡ ds → o ≡ left_all (Some (most - 1)) (data_of now)
    → o ≡ left_in (Some most) (form d)
list-left most d at ds now o z e g h =
    h ∙ (ap (λ ds. left_all (Some (most - 1)) (data_of ds)) g ∙ (ap (λ o. left_all o (data_of ds)) (sym (one-off most (nat_eq most 0) refl z)) ∙ rw (e, form-List at ds) refl))

pub vector-left : (most : ℕ) (d : Datum) (at : Place) (ds now : List Datum) (o : Option ℕ) → nat_eq most 0 ≡ false → d ≡ views.Vector at ds → now ≡ ds → o ≡ left_all (Some (most - 1)) (data_of now)
    → o ≡ left_in (Some most) (form d)
vector-left most d at ds now o z e g h =
    h ∙ (ap (λ ds. left_all (Some (most - 1)) (data_of ds)) g ∙ (ap (λ o. left_all o (data_of ds)) (sym (one-off most (nat_eq most 0) refl z)) ∙ rw (e, form-Vector at ds) refl))

pub dotted-left : (most : ℕ) (d : Datum) (at : Place) (ds now : List Datum) (tail : Datum) (o : Option ℕ) → nat_eq most 0 ≡ false → d ≡ views.Dotted at ds tail → now ≡ ds → o ≡ left_all (Some (most - 1)) (data_of now)
    → left_in o (form tail) ≡ left_in (Some most) (form d)
dotted-left most d at ds now tail o z e g h =
    ap (λ o. left_in o (form tail)) (h ∙ (ap (λ ds. left_all (Some (most - 1)) (data_of ds)) g ∙ ap (λ o. left_all o (data_of ds)) (sym (one-off most (nat_eq most 0) refl z))))
    ∙ rw (e, form-Dotted at ds tail) refl

pub all-stop : (most left i : ℕ) (items : List Datum) (d : Datum) → left_all (Some most) (data_of items) ≡ left_all (Some left) (data_of (drop i items)) → drop i items ≡ d ∷ drop (i + 1) items → None ≡ left_in (Some left) (form d)
    → None ≡ left_all (Some most) (data_of items)
all-stop most left i items d h e f = sym (h ∙ (ap (λ ds. left_all (Some left) (data_of ds)) e ∙ (ap (λ o. left_all o (data_of (drop (i + 1) items))) (sym f) ∙ none-all (data_of (drop (i + 1) items)))))
