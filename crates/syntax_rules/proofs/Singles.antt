-- One datum that is made.
use Rattle.std.proofs.Common.{◌≡◌, ℕ, ◌+◌, ◌++◌, List, [], ◌∷◌, map, Err, refl, ap, ◌∙◌, arith}
use Rattle.scheme_data.specs.Forms.{Form, form, forms, form_size, forms_size}
use Rattle.scheme_data.specs.declared.datum.Datum.{Datum}
use Rattle.syntax_rules.specs.Made.{Made, Leaves}
use Rattle.syntax_rules.specs.declared.error.RulesErr.{RulesErr}
use Rattle.syntax_rules.specs.declared.error.RulesErr.TheVariants.{BadRules, NoRule, Limit, Memory}

pub one_stopped : (ds : List Form) (f : Form) (left : ℕ) (old now : List Datum) (e : RulesErr) → ds ≡ f ∷ [] → form_size f ≡ 1 → Leaves 1 left (Err e) → Made ds left old now (Err e)
one_stopped ds f left old now (Limit kind) g s (h, k) = let same = ap (λ ds. forms_size (forms ds)) g in (h, omega (arith, s, k, same))
one_stopped ds f left old now Memory g s h = tt
one_stopped ds f left old now (BadRules at) g s h = absurd h
one_stopped ds f left old now (NoRule at) g s h = absurd h

added_forms : (old : List Datum) (d : Datum) → map form (old ++ d ∷ []) ≡ map form old ++ form d ∷ []
added_forms [] d = refl
added_forms (o ∷ old) d = ap (λ fs. form o ∷ fs) (added_forms old d)

pub one_made : (f : Form) (left rest : ℕ) (old new : List Datum) (d : Datum) → new ≡ old ++ d ∷ [] → form d ≡ f → form_size f ≡ 1 → left ≡ 1 + rest
    → (map form new ≡ map form old ++ f ∷ []) × (left ≡ forms_size (forms (f ∷ [])) + rest)
one_made f left rest old new d e g s h = (ap (map form) e ∙ added_forms old d ∙ ap (λ f. map form old ++ f ∷ []) g, omega (arith, s, h))
