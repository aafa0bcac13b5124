-- The names of literals, one by one.
use Rattle.std.proofs.Common.{◌≡◌, ℕ, Bool, true, false, not, if◌then◌else◌, List, [], ◌∷◌, ◌++◌, Option, Some, None, refl, sym, ap, ◌∙◌}
use Rattle.name_table.specs.Names.{has_name}
use Rattle.scheme_data.specs.Forms.{Forms, form, next, end}
use Rattle.scheme_data.specs.declared.datum.Place.{Place}
use Rattle.scheme_data.specs.declared.datum.Datum.{Datum}
use Rattle.scheme_data.specs.declared.datum.Datum as data_of
use Rattle.syntax_rules.specs.Macros.{literals_of, with_name}
use Rattle.syntax_rules.proofs.Atoms.{no_symbol, form-Sym}

pub literals_stop : (start others : List (List ℕ)) (whole here rest : Forms) (d : Datum) → literals_of start whole ≡ literals_of others here → here ≡ next (form d) rest
    → ((at : Place) (x : List ℕ) (m : ℕ) → d ≡ data_of.Sym at x m → ⊥) → ◌≡◌ {A = Option (List (List ℕ))} None (literals_of start whole)
literals_stop start others whole here rest d e f h =
    no_symbol (λ g. ◌≡◌ {A = Option (List (List ℕ))} None (literals_of others (next g rest))) (λ _ _. refl) (λ _ _ _. refl) (λ _ _. refl) (λ _ _. refl) d h
    ∙ sym (e ∙ ap (literals_of others) f)

turned : (b : Bool) (names more : List (List ℕ)) → (if b then names else more) ≡ (if not b then more else names)
turned true names more = refl
turned false names more = refl

pub literals_on : (start others now : List (List ℕ)) (whole here rest : Forms) (d : Datum) (at : Place) (x y : List ℕ) (m : ℕ) (b : Bool)
    → literals_of start whole ≡ literals_of others here → here ≡ next (form d) rest → d ≡ data_of.Sym at x m → y ≡ x
    → b ≡ not (has_name others y) → now ≡ (if b then others ++ y ∷ [] else others) → literals_of start whole ≡ literals_of now rest
literals_on start others now whole here rest d at x y m b e f g h i j =
    let same : with_name others y ≡ now = turned (has_name others y) others (others ++ y ∷ []) ∙ ap (λ b. if b then others ++ y ∷ [] else others) (sym i) ∙ sym j in
    e ∙ ap (literals_of others) f ∙ ap (λ f. literals_of others (next f rest)) (ap form g ∙ form-Sym at x m)
    ∙ ap (λ ns. literals_of ns rest) (ap (with_name others) (sym h) ∙ same)

pub literals_end : (start others : List (List ℕ)) (whole here : Forms) → literals_of start whole ≡ literals_of others here → here ≡ end → Some others ≡ literals_of start whole
literals_end start others whole here e f = sym (e ∙ ap (literals_of others) f)
