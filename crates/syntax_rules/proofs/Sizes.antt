-- How many data are counted and made.
use Rattle.std.proofs.Common.{◌≡◌, ℕ, zero, suc, ◌+◌, ◌<◌, ◌≤◌, ◌++◌, ◌&&◌, Bool, true, false, List, [], ◌∷◌, length, map, drop, get_or, Option, Some, None, Err, MatchOption, refl, sym, ap, ◌∙◌, arith, append_assoc, subst, inl, inr, ◌⊎◌}
use Rattle.std.proofs.Math.Seq.{drop-cons}
use Rattle.scheme_data.specs.Forms.{Form, form, forms, form_size, forms_size}
use Rattle.scheme_data.specs.declared.datum.Place.{Place}
use Rattle.scheme_data.specs.declared.datum.Datum.{Datum}
use Rattle.scheme_data.specs.declared.datum.Datum.TheViews as datum
use Rattle.syntax_rules.specs.Filling.{in_rows, in_all_rows, filled, all_filled}
use Rattle.syntax_rules.specs.Made.{Made}
use Rattle.syntax_rules.specs.TreeViews.{the_template, templates}
use Rattle.syntax_rules.specs.Trees.{Path}
use Rattle.syntax_rules.specs.declared.error.RulesErr.{RulesErr}
use Rattle.syntax_rules.specs.declared.error.RulesErr.TheVariants.{BadRules, NoRule, Limit, Memory}
use Rattle.syntax_rules.specs.declared.tree.Template.{Template}
use Rattle.syntax_rules.proofs.Layers.{form-List, form-Dotted, form-Vector}

-- Counting ---------------------------------------------------------------------------------

abbrev pub Left : ℕ → ℕ → Option ℕ → Type 0
Left n left r = MatchOption r (left < n) (λ rest. left ≡ n + rest)

left_one_more : (n left : ℕ) (r : Option ℕ) → Left n left r → Left (1 + n) (left + 1) r
left_one_more n left None h = omega arith
left_one_more n left (Some rest) h = omega arith

left_of : (n m left more : ℕ) (r : Option ℕ) → left + 1 ≡ more → 1 + n ≡ m → Left n left r → Left m more r
left_of n m left more r e f h = subst (λ k. Left m k r) e (subst (λ k. Left k (left + 1) r) f (left_one_more n left r h))

pub left_list : (at : Place) (ds es : List Datum) (left more : ℕ) (r : Option ℕ) → left + 1 ≡ more → es ≡ ds → Left (forms_size (forms (map form es))) left r → Left (form_size (form (datum.List at ds))) more r
left_list at ds es left more r e f h = left_of (forms_size (forms (map form ds))) (form_size (form (datum.List at ds))) left more r e (sym (ap form_size (form-List at ds)))
    (subst (λ (es : List Datum). Left (forms_size (forms (map form es))) left r) f h)

pub left_vector : (at : Place) (ds es : List Datum) (left more : ℕ) (r : Option ℕ) → left + 1 ≡ more → es ≡ ds → Left (forms_size (forms (map form es))) left r → Left (form_size (form (datum.Vector at ds))) more r
left_vector at ds es left more r e f h = left_of (forms_size (forms (map form ds))) (form_size (form (datum.Vector at ds))) left more r e (sym (ap form_size (form-Vector at ds)))
    (subst (λ (es : List Datum). Left (forms_size (forms (map form es))) left r) f h)

left_more : (n k left mid : ℕ) (r : Option ℕ) → left ≡ n + mid → Left k mid r → Left (n + k) left r
left_more n k left mid None e h = omega (arith, e, h)
left_more n k left mid (Some rest) e h = omega (arith, e, h)

pub left_dotted : (at : Place) (ds es : List Datum) (tail last : Datum) (left mid more : ℕ) (r : Option ℕ) → left + 1 ≡ more → es ≡ ds → last ≡ tail → left ≡ forms_size (forms (map form es)) + mid
    → Left (form_size (form last)) mid r → Left (form_size (form (datum.Dotted at ds tail))) more r
left_dotted at ds es tail last left mid more r e f g k h =
    left_of (forms_size (forms (map form ds)) + form_size (form tail)) (form_size (form (datum.Dotted at ds tail))) left more r e (sym (ap form_size (form-Dotted at ds tail)))
    (left_more (forms_size (forms (map form ds))) (form_size (form tail)) left mid r (k ∙ ap (λ (es : List Datum). forms_size (forms (map form es)) + mid) f)
    (subst (λ (d : Datum). Left (form_size (form d)) mid r) g h))

pub none_left_dotted : (at : Place) (ds es : List Datum) (tail : Datum) (left more : ℕ) → left + 1 ≡ more → es ≡ ds → left < forms_size (forms (map form es)) → more < form_size (form (datum.Dotted at ds tail))
none_left_dotted at ds es tail left more e f h =
    let whole = ap form_size (form-Dotted at ds tail) in
    let same = ap (λ (es : List Datum). forms_size (forms (map form es))) f in
    omega (arith, whole, same, e, h)

-- Making -----------------------------------------------------------------------------------

pub sizes_join : (a b : List Form) → forms_size (forms (a ++ b)) ≡ forms_size (forms a) + forms_size (forms b)
sizes_join [] b = omega arith
sizes_join (x ∷ xs) b = let more = sizes_join xs b in omega (arith, more)

-- what comes first is made, and the others are left
pub going_on : (start left rest : ℕ) (first after here whole : List Form) (old now new : List Datum) → here ≡ first ++ after
    → map form now ++ here ≡ map form old ++ whole → start + forms_size (forms here) ≡ forms_size (forms whole) + left
    → (map form new ≡ map form now ++ first) × (left ≡ forms_size (forms first) + rest)
    → (map form new ++ after ≡ map form old ++ whole) × (start + forms_size (forms after) ≡ forms_size (forms whole) + rest)
going_on start left rest first after here whole old now new e made count (more, less) =
    let sizes = ap (λ fs. forms_size (forms fs)) e ∙ sizes_join first after in
    (ap (λ fs. fs ++ after) more ∙ append_assoc (map form now) first after ∙ ap (λ fs. map form now ++ fs) (sym e) ∙ made, omega (arith, sizes, count, less))

pub stopped : (start left : ℕ) (first after here whole : List Form) (old now new : List Datum) (e : RulesErr) → here ≡ first ++ after
    → start + forms_size (forms here) ≡ forms_size (forms whole) + left → Made first left now new (Err e) → Made whole start old new (Err e)
stopped start left first after here whole old now new (Limit kind) is count (h, k) =
    let sizes = ap (λ fs. forms_size (forms fs)) is ∙ sizes_join first after in
    (h, omega (arith, sizes, count, k))
stopped start left first after here whole old now new Memory is count h = tt
stopped start left first after here whole old now new (BadRules at) is count h = absurd h
stopped start left first after here whole old now new (NoRule at) is count h = absurd h

module _ (paths : List Path) (d : Form) (at : Place) (mark : ℕ) (rows : List ℕ) where
  pub rest_at : (ts : List Template) (i : ℕ) (t : Template) → i < length ts → t ≡ get_or ts i t
      → all_filled paths d at mark rows (templates (map the_template (drop i ts))) ≡ filled paths d at mark rows (the_template t) ++ all_filled paths d at mark rows (templates (map the_template (drop (i + 1) ts)))
  rest_at ts i t low is =
      ap (λ ts. all_filled paths d at mark rows (templates (map the_template ts))) (drop-cons ts i t low)
      ∙ ap (λ (t : Template). filled paths d at mark rows (the_template t) ++ all_filled paths d at mark rows (templates (map the_template (drop (suc i) ts)))) (sym is)
      ∙ ap (λ n. filled paths d at mark rows (the_template t) ++ all_filled paths d at mark rows (templates (map the_template (drop n ts)))) (next_is i)
    where
      next_is : (k : ℕ) → suc k ≡ k + 1
      next_is k = omega arith

-- Rows -------------------------------------------------------------------------------------

last_or_before : (k m : ℕ) → k < suc m → (k ≡ m) ⊎ (k < m)
last_or_before zero zero h = inl refl
last_or_before zero (suc m) h = inr (omega arith)
last_or_before (suc k) zero h = absurd (omega arith)
last_or_before (suc k) (suc m) h = elim (last_or_before k m (omega arith)) [ inl e ↦ inl (ap suc e) | inr b ↦ inr (omega arith) ]

and-false : (b : Bool) → (b && false) ≡ false
and-false true = refl
and-false false = refl

module _ (f : ℕ → Bool) where
  disagrees : (n k : ℕ) → k < n → f k ≡ false → in_all_rows n f ≡ false
  disagrees zero k h e = absurd (omega arith)
  disagrees (suc m) k h e = elim (last_or_before k m h) [
    | inl s ↦ ap (λ b. in_all_rows m f && b) (ap f (sym s) ∙ e) ∙ and-false (in_all_rows m f)
    | inr b ↦ ap (λ c. c && f m) (disagrees m k b e)
  ]

  pub row_disagrees : (n k : ℕ) (b : Bool) → k < n → b ≡ f k → b ≡ false → false ≡ in_all_rows n f
  row_disagrees n k b h e g = sym (disagrees n k h (sym e ∙ g))

module _ (f : ℕ → List Form) where
  -- the rows until then have no more data than all
  rows_within : (n k : ℕ) → k < n → forms_size (forms (in_rows k f)) + forms_size (forms (f k)) ≤ forms_size (forms (in_rows n f))
  rows_within zero k h = absurd (omega arith)
  rows_within (suc m) k h =
      let sizes = sizes_join (in_rows m f) (f m) in
      elim (last_or_before k m h) [
        | inl s ↦ let same = ap (λ j. forms_size (forms (in_rows j f)) + forms_size (forms (f j))) s in omega (arith, same, sizes)
        | inr b ↦ let more = rows_within m k b in omega (arith, more, sizes)
      ]

  pub row_stopped : (start left n k : ℕ) (first : List Form) (old now new : List Datum) (e : RulesErr) → k < n → first ≡ f k → start ≡ forms_size (forms (in_rows k f)) + left
      → Made first left now new (Err e) → Made (in_rows n f) start old new (Err e)
  row_stopped start left n k first old now new (Limit kind) low is count (h, j) =
      let within = rows_within n k low in
      let same = ap (λ fs. forms_size (forms fs)) is in
      (h, omega (arith, within, same, count, j))
  row_stopped start left n k first old now new Memory low is count h = tt
  row_stopped start left n k first old now new (BadRules at) low is count h = absurd h
  row_stopped start left n k first old now new (NoRule at) low is count h = absurd h

  pub row_made : (start left rest k : ℕ) (first : List Form) (old now new : List Datum) → first ≡ f k → map form now ≡ map form old ++ in_rows k f → start ≡ forms_size (forms (in_rows k f)) + left
      → (map form new ≡ map form now ++ first) × (left ≡ forms_size (forms first) + rest)
      → (map form new ≡ map form old ++ in_rows (k + 1) f) × (start ≡ forms_size (forms (in_rows (k + 1) f)) + rest)
  row_made start left rest k first old now new is made count (more, less) =
      let next : in_rows (k + 1) f ≡ in_rows k f ++ f k = ap (λ n. in_rows n f) (next_is k) in
      let sizes = ap (λ fs. forms_size (forms fs)) next ∙ sizes_join (in_rows k f) (f k) in
      let same = ap (λ fs. forms_size (forms fs)) is in (
        more ∙ ap (λ fs. fs ++ first) made ∙ append_assoc (map form old) (in_rows k f) first ∙ ap (λ g. map form old ++ (in_rows k f ++ g)) is ∙ ap (λ fs. map form old ++ fs) (sym next),
        omega (arith, sizes, same, count, less),
      )
    where
      next_is : (k : ℕ) → k + 1 ≡ suc k
      next_is k = omega arith
