-- Where `...` stands in lists.
use Rattle.std.proofs.Common.{◌≡◌, ℕ, zero, suc, ◌+◌, ◌-◌, ◌<◌, List, [], ◌∷◌, length, map, drop, get_or, false, refl, sym, ap, ◌∙◌, arith}
use Rattle.std.proofs.Math.Seq.{drop-cons}
use Rattle.scheme_data.specs.Forms.{form, forms, next}
use Rattle.scheme_data.specs.declared.datum.Datum.{Datum}
use Rattle.syntax_rules.specs.Patterns.{are_dots}

pub no_dots_end : (ds : List Datum) (i : ℕ) → i < length ds → (length ds - i ≡ 2 → ⊥) → false ≡ are_dots (forms (map form (drop (suc i) ds)))
no_dots_end [] i h k = absurd (omega arith)
no_dots_end (x ∷ []) zero h k = refl
no_dots_end (x ∷ d ∷ []) zero h k = absurd (k (omega arith))
no_dots_end (x ∷ d ∷ e ∷ es) zero h k = refl
no_dots_end (x ∷ xs) (suc i) h k = no_dots_end xs i (omega arith) (λ e. k (omega arith))

pub next_is : (k : ℕ) → suc k ≡ k + 1
next_is k = omega arith

-- what stands from a place on
pub forms_at : (ds : List Datum) (i : ℕ) (d : Datum) → i < length ds → d ≡ get_or ds i d → forms (map form (drop i ds)) ≡ next (form d) (forms (map form (drop (i + 1) ds)))
forms_at ds i d low is =
    ap (λ ds. forms (map form ds)) (drop-cons ds i d low)
    ∙ ap (λ (d : Datum). next (form d) (forms (map form (drop (suc i) ds)))) (sym is)
    ∙ ap (λ n. next (form d) (forms (map form (drop n ds)))) (next_is i)
