-- Walks over the forms that are written, and what they look for.
use Rattle.std.proofs.Common.{◌≡◌, ℕ, ◌-◌, ◌<◌, ◌≤◌, Bool, true, false, ◌&&◌, ◌||◌, List, [], ◌∷◌, codes, length, take, drop, get_or, rules, refl, sym, ap, ◌∙◌, arith}
use Rattle.std.specs.List.{list_any}
use Rattle.std.proofs.lemmas.List.{take_all, length-drop}
use Rattle.scheme_data.specs.declared.datum.Datum.{Datum}
use Rattle.scheme_data.specs.declared.datum.Datum as datum_of
use Rattle.scheme_data.specs.declared.datum.Datum.TheVariants as datum
use Rattle.scheme_data.specs.declared.datum.Place.{Place}
use Rattle.scheme_data.specs.Forms.{listed, next, form, form_says}
use Rattle.core_forms.specs.Modules.{declares, declare}
use Rattle.expander.specs.Answers.{module_of}

form_list : (at : Place) (ds : List Datum) → form (datum.List at ds) ≡ listed at (module_of ds)
form_list at ds = search (rules, datum_of.the_lemmas)

-- `rest` of `[first, rest @ ..]`
abbrev pub rest_of : List Datum → List Datum
rest_of ds = take (length ds - 1) (drop 1 ds)

rest_is : (d : Datum) (ds : List Datum) → rest_of (d ∷ ds) ≡ ds
rest_is d ds = take_all (length (d ∷ ds) - 1) ds (omega (arith, length-drop 1 (d ∷ ds)))

-- `[first, rest @ ..]`
parted : (ds : List Datum) (first : Datum) → 1 ≤ length ds → first ≡ get_or ds 0 first → module_of ds ≡ next (form first) (module_of (rest_of ds))
parted [] first l e = absurd (omega arith)
parted (d ∷ ds) first l e =
    ap (λ (d : Datum). next (form d) (module_of ds)) (sym e) ∙ ap (λ (ds : List Datum). next (form first) (module_of ds)) (sym (rest_is d ds))

-- a list that matches it
pub parted_list : (at : Place) (ds xs : List Datum) (first : Datum) → xs ≡ ds → 1 ≤ length xs → first ≡ get_or xs 0 first
    → form (datum.List at ds) ≡ listed at (next (form first) (module_of (rest_of xs)))
parted_list at ds xs first same l e = form_list at ds ∙ ap (λ (ds : List Datum). listed at (module_of ds)) (sym same) ∙ ap (listed at) (parted xs first l e)

pub declare_any : (x : List ℕ) (ds : List Datum) → list_any (λ d. declares x (form d)) ds ≡ declare x (module_of ds)
declare_any x [] = refl
declare_any x (d ∷ ds) = ap (λ b. declares x (form d) || b) (declare_any x ds)

short_declares : (x : List ℕ) (at : Place) (ds : List Datum) → length ds < 2 → false ≡ declares x (listed at (module_of ds))
short_declares x at [] l = refl
short_declares x at (d ∷ []) l = refl
short_declares x at (d ∷ e ∷ ds) l = absurd (omega arith)

-- one datum is no definition of a macro
pub nothing_declared : (x : List ℕ) (at : Place) (ds xs : List Datum) → xs ≡ ds → length xs < 2 → false ≡ declares x (form (datum.List at ds))
nothing_declared x at ds xs same l =
    short_declares x at xs l ∙ ap (λ (ds : List Datum). declares x (listed at (module_of ds))) same ∙ sym (ap (declares x) (form_list at ds))

two_declare : (x : List ℕ) (at : Place) (ds : List Datum) (word name : Datum) → 2 ≤ length ds → word ≡ get_or ds 0 word → name ≡ get_or ds 1 name
    → (form_says (form word) (codes "define-syntax") && form_says (form name) x) ≡ declares x (listed at (module_of ds))
two_declare x at [] word name l e f = absurd (omega arith)
two_declare x at (a ∷ []) word name l e f = absurd (omega arith)
two_declare x at (a ∷ b ∷ ds) word name l e f =
    ap (λ (a : Datum). form_says (form a) (codes "define-syntax") && form_says (form name) x) e
    ∙ ap (λ (b : Datum). form_says (form a) (codes "define-syntax") && form_says (form b) x) f

words_declare : (x : List ℕ) (at : Place) (ds xs : List Datum) (word name : Datum) → xs ≡ ds → 2 ≤ length xs → word ≡ get_or xs 0 word → name ≡ get_or xs 1 name
    → (form_says (form word) (codes "define-syntax") && form_says (form name) x) ≡ declares x (form (datum.List at ds))
words_declare x at ds xs word name same l e f =
    two_declare x at xs word name l e f ∙ ap (λ (ds : List Datum). declares x (listed at (module_of ds))) same ∙ sym (ap (declares x) (form_list at ds))

-- where the word in front is that of a definition, the name behind it tells
pub name_declares : (x : List ℕ) (at : Place) (ds xs : List Datum) (word name : Datum) (r : Bool) → xs ≡ ds → 2 ≤ length xs → word ≡ get_or xs 0 word → name ≡ get_or xs 1 name
    → form_says (form word) (codes "define-syntax") ≡ true → r ≡ form_says (form name) x → r ≡ declares x (form (datum.List at ds))
name_declares x at ds xs word name r same l e f y h =
    h ∙ sym (ap (λ b. b && form_says (form name) x) y) ∙ words_declare x at ds xs word name same l e f

pub word_declares : (x : List ℕ) (at : Place) (ds xs : List Datum) (word name : Datum) → xs ≡ ds → 2 ≤ length xs → word ≡ get_or xs 0 word → name ≡ get_or xs 1 name
    → form_says (form word) (codes "define-syntax") ≡ false → false ≡ declares x (form (datum.List at ds))
word_declares x at ds xs word name same l e f n =
    sym (ap (λ b. b && form_says (form name) x) n) ∙ words_declare x at ds xs word name same l e f
