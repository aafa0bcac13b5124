-- The code's data and core forms as plain trees.
use Rattle.std.proofs.Common.{◌≡◌, ℕ, List, [], ◌∷◌, ◌++◌, map, refl, ap, ◌∙◌, rules}
use Rattle.scheme_data.specs.declared.datum.Place.{Place}
use Rattle.scheme_data.specs.declared.datum.Datum.{Datum}
use Rattle.scheme_data.specs.declared.datum.Datum as datum
use Rattle.scheme_data.specs.declared.datum.Datum.TheViews as views
use Rattle.core_forms.specs.Table.{two, three}
use Rattle.scheme_data.specs.Forms.{Forms, form, forms, symbol, listed, dotted, vector, next, join}

pub form-Sym : (at : Place) (x : List ℕ) (m : ℕ) → form (datum.Sym at x m) ≡ symbol at x m
form-Sym at x m = search (rules, datum.the_lemmas)

pub form-List : (at : Place) (ds : List Datum) → form (views.List at ds) ≡ listed at (forms (map form ds))
form-List at ds = search (rules, datum.the_lemmas)

pub form-Dotted : (at : Place) (ds : List Datum) (d : Datum) → form (views.Dotted at ds d) ≡ dotted at (forms (map form ds)) (form d)
form-Dotted at ds d = search (rules, datum.the_lemmas)

pub form-Vector : (at : Place) (ds : List Datum) → form (views.Vector at ds) ≡ vector at (forms (map form ds))
form-Vector at ds = search (rules, datum.the_lemmas)

pub join_last : (ds : List Datum) (d : Datum) (rest : Forms) → join (forms (map form (ds ++ d ∷ []))) rest ≡ join (forms (map form ds)) (next (form d) rest)
join_last [] d rest = refl
join_last (e ∷ ds) d rest = ap (next (form e)) (join_last ds d rest)

pub two_are : (at : Place) (a b : Datum) (none one all : List Datum) → none ≡ [] → one ≡ none ++ a ∷ [] → all ≡ one ++ b ∷ [] → form (views.List at all) ≡ two at (form a) (form b)
two_are at a b none one all e f g =
    let is : all ≡ a ∷ b ∷ [] = g ∙ (ap (λ (ds : List Datum). ds ++ b ∷ []) f ∙ ap (λ (ds : List Datum). (ds ++ a ∷ []) ++ b ∷ []) e) in
    form-List at all ∙ ap (λ (ds : List Datum). listed at (forms (map form ds))) is

pub three_are : (at : Place) (a b c : Datum) (none one pair all : List Datum) → none ≡ [] → one ≡ none ++ a ∷ [] → pair ≡ one ++ b ∷ [] → all ≡ pair ++ c ∷ [] → form (views.List at all) ≡ three at (form a) (form b) (form c)
three_are at a b c none one pair all e f g h =
    let is : all ≡ a ∷ b ∷ c ∷ [] = h ∙ (ap (λ (ds : List Datum). ds ++ c ∷ []) g ∙ (ap (λ (ds : List Datum). (ds ++ b ∷ []) ++ c ∷ []) f ∙ ap (λ (ds : List Datum). ((ds ++ a ∷ []) ++ b ∷ []) ++ c ∷ []) e)) in
    form-List at all ∙ ap (λ (ds : List Datum). listed at (forms (map form ds))) is
