-- Names, and the module behind them.
use Rattle.std.proofs.Common.{◌≡◌, ℕ, suc, ◌≤◌, List, [], ◌∷◌, ◌++◌, length, Option, Some, None, refl, sym, ap, ◌∙◌, arith}
use Rattle.scheme_data.specs.Forms.{form}
use Rattle.scheme_data.specs.declared.datum.Place.{Place}
use Rattle.scheme_data.specs.declared.datum.Datum.{Datum}
use Rattle.module_head.specs.declared.head.Import.{Import}
use Rattle.module_head.specs.Heads.{onto, symbol_of, names_of, last_of, before_last, import_of}
use Rattle.module_head.specs.Shapes.{forms_of}

-- names with one behind them
abbrev then_name : Option (List (List ℕ)) → Option (List ℕ) → Option (List (List ℕ))
then_name None m = None
then_name (Some xs) None = None
then_name (Some xs) (Some m) = Some (xs ++ m ∷ [])

onto_then : (n : Option (List ℕ)) (o : Option (List (List ℕ))) (m : Option (List ℕ)) → onto n (then_name o m) ≡ then_name (onto n o) m
onto_then None None m = refl
onto_then None (Some xs) None = refl
onto_then None (Some xs) (Some m) = refl
onto_then (Some x) None m = refl
onto_then (Some x) (Some xs) None = refl
onto_then (Some x) (Some xs) (Some m) = refl

names_last : (ds : List Datum) (d : Datum) → names_of (forms_of (ds ++ d ∷ [])) ≡ then_name (names_of (forms_of ds)) (symbol_of (form d))
names_last [] d = alone (symbol_of (form d))
  where
    alone : (n : Option (List ℕ)) → onto n (Some []) ≡ then_name (Some []) n
    alone None = refl
    alone (Some x) = refl
names_last (a ∷ ds) d = ap (onto (symbol_of (form a))) (names_last ds d) ∙ onto_then (symbol_of (form a)) (names_of (forms_of ds)) (symbol_of (form d))

last_is : (y : List ℕ) (ys : List (List ℕ)) (m : List ℕ) → last_of y (ys ++ m ∷ []) ≡ m
last_is y [] m = refl
last_is y (z ∷ zs) m = last_is z zs m

before_is : (y : List ℕ) (ys : List (List ℕ)) (m : List ℕ) → before_last y (ys ++ m ∷ []) ≡ y ∷ ys
before_is y [] m = refl
before_is y (z ∷ zs) m = ap (λ ys. y ∷ ys) (before_is z zs m)

abbrev item : Place → List ℕ → List (List ℕ) → Option Import
item at m xs = Some (record { at = at; module_name = m; names = Some xs })

import_last : (at : Place) (x : List ℕ) (xs : List (List ℕ)) (m : List ℕ) → import_of at (Some (x ∷ xs ++ m ∷ [])) ≡ item at m (x ∷ xs)
import_last at x [] m = refl
import_last at x (y ∷ ys) m = ap (λ n. item at n (x ∷ before_last y (ys ++ m ∷ []))) (last_is y ys m) ∙ ap (λ ns. item at m (x ∷ ns)) (before_is y ys m)

abbrev whole : List Datum → Option (List (List ℕ))
whole ds = names_of (forms_of ds)

whole_is : (ds front : List Datum) (last : Datum) → ds ≡ front ++ last ∷ [] → whole ds ≡ then_name (whole front) (symbol_of (form last))
whole_is ds front last e = ap whole e ∙ names_last front last

pub no_module : (at : Place) (ds front : List Datum) (last : Datum) → ds ≡ front ++ last ∷ [] → None ≡ symbol_of (form last) → None ≡ import_of at (names_of (forms_of ds))
no_module at ds front last e n =
    sym (ap (import_of at) (whole_is ds front last e) ∙ ap (λ n. import_of at (then_name (whole front) n)) (sym n) ∙ go (whole front))
  where
    go : (o : Option (List (List ℕ))) → import_of at (then_name o None) ≡ None
    go None = refl
    go (Some xs) = refl

pub no_imported_name : (at : Place) (ds front : List Datum) (last : Datum) → ds ≡ front ++ last ∷ [] → None ≡ names_of (forms_of front) → None ≡ import_of at (names_of (forms_of ds))
no_imported_name at ds front last e n =
    sym (ap (import_of at) (whole_is ds front last e) ∙ ap (λ o. import_of at (then_name o (symbol_of (form last)))) (sym n))

names_length : (ds : List Datum) (xs : List (List ℕ)) → Some xs ≡ whole ds → length xs ≡ length ds
names_length [] xs e = let same : xs ≡ [] = cc in ap length same
names_length (d ∷ ds) xs e = go (symbol_of (form d)) (whole ds) (λ ys s. names_length ds ys s) e
  where
    go : (n : Option (List ℕ)) (o : Option (List (List ℕ))) → ((ys : List (List ℕ)) → Some ys ≡ o → length ys ≡ length ds) → Some xs ≡ onto n o → length xs ≡ suc (length ds)
    go None None shorter e = absurd (cc)
    go None (Some ys) shorter e = absurd (cc)
    go (Some x) None shorter e = absurd (cc)
    go (Some x) (Some ys) shorter e = let same : xs ≡ x ∷ ys = cc in ap length same ∙ ap suc (shorter ys refl)

pub import_is : (at : Place) (ds front : List Datum) (last : Datum) (m name : List ℕ) (xs : List (List ℕ)) → ds ≡ front ++ last ∷ [] → 1 ≤ length front
    → Some m ≡ symbol_of (form last) → name ≡ m → Some xs ≡ names_of (forms_of front)
    → Some (record { at = at; module_name = name; names = Some xs }) ≡ import_of at (names_of (forms_of ds))
import_is at ds front last m name xs e l n same s =
    sym (ap (import_of at) (whole_is ds front last e) ∙ ap (λ n. import_of at (then_name (whole front) n)) (sym n) ∙ ap (λ o. import_of at (then_name o (Some m))) (sym s)
    ∙ go xs (names_length front xs s) ∙ ap (λ m. item at m xs) (sym same))
  where
    go : (xs : List (List ℕ)) → length xs ≡ length front → import_of at (Some (xs ++ m ∷ [])) ≡ item at m xs
    go [] h = absurd (omega arith)
    go (x ∷ xs) h = import_last at x xs m
