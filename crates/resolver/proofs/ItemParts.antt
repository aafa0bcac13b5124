-- The items of `import` and `export` clauses by their parts.
use Rattle.std.proofs.Common.{◌≡◌, ℕ, suc, ◌≤◌, true, false, if◌then◌else◌, codes, List, [], ◌∷◌, ◌++◌, length, get_or, Option, Some, None, refl, sym, ap, ◌∙◌, arith}
use Rattle.std.specs.Option.{is_some}
use Rattle.scheme_data.specs.Data.{Plain, plain, plain_all}
use Rattle.scheme_data.specs.declared.datum.Datum.{Datum}
use Rattle.resolver.specs.BuiltHeads.{is_word, onto, name_of, names_of, with_name, item_of, some_item, import_item, prototype, export_item}
use Rattle.resolver.specs.DatumParts.{parts_of}
use Rattle.resolver.proofs.HeadLayers.{listed_is, rest_of, one_listed}

-- Imports -----------------------------------------------------------------------------------

-- names with one behind them
abbrev then_name : Option (List (List ℕ)) → Option (List ℕ) → Option (List (List ℕ))
then_name None m = None
then_name (Some xs) None = None
then_name (Some xs) (Some m) = Some (xs ++ m ∷ [])

onto_then : (n : Option (List ℕ)) (o : Option (List (List ℕ))) (m : Option (List ℕ)) → onto n (then_name o m) ≡ then_name (onto n o) m
onto_then None None m = refl
onto_then None (Some xs) None = refl
onto_then None (Some xs) (Some m) = refl
onto_then (Some x) None m = refl
onto_then (Some x) (Some xs) None = refl
onto_then (Some x) (Some xs) (Some m) = refl

names_last : (ds : List Datum) (d : Datum) → names_of (plain_all (ds ++ d ∷ [])) ≡ then_name (names_of (plain_all ds)) (name_of (plain d))
names_last [] d = alone (name_of (plain d))
  where
    alone : (n : Option (List ℕ)) → onto n (Some []) ≡ then_name (Some []) n
    alone None = refl
    alone (Some x) = refl
names_last (a ∷ ds) d =
    ap (onto (name_of (plain a))) (names_last ds d) ∙ onto_then (name_of (plain a)) (names_of (plain_all ds)) (name_of (plain d))

item_last : (xs : List (List ℕ)) (x m : List ℕ) → item_of (x ∷ xs ++ m ∷ []) ≡ Some (record { module_name = m; names = x ∷ xs })
item_last [] x m = refl
item_last (y ∷ []) x m = refl
item_last (y ∷ z ∷ zs) x m = ap (with_name x) (item_last (z ∷ zs) y m)

-- the parts of an item: the front, and the last
item_parts : (d : Plain) (ds front : List Datum) (last : Datum) → Some (plain_all ds) ≡ parts_of d → ds ≡ front ++ last ∷ []
    → import_item d ≡ some_item (then_name (names_of (plain_all front)) (name_of (plain last)))
item_parts d ds front last p e =
    ap import_item (listed_is d (plain_all ds) p) ∙ ap (λ (ds : List Datum). some_item (names_of (plain_all ds))) e ∙ ap some_item (names_last front last)

pub no_module : (d : Plain) (ds front : List Datum) (last : Datum) → Some (plain_all ds) ≡ parts_of d → ds ≡ front ++ last ∷ [] → None ≡ name_of (plain last)
    → None ≡ import_item d
no_module d ds front last p e n =
    sym (item_parts d ds front last p e ∙ ap (λ n. some_item (then_name (names_of (plain_all front)) n)) (sym n) ∙ go (names_of (plain_all front)))
  where
    go : (o : Option (List (List ℕ))) → some_item (then_name o None) ≡ None
    go None = refl
    go (Some xs) = refl

pub no_imported_name : (d : Plain) (ds front : List Datum) (last : Datum) → Some (plain_all ds) ≡ parts_of d → ds ≡ front ++ last ∷ []
    → None ≡ names_of (plain_all front) → None ≡ import_item d
no_imported_name d ds front last p e n =
    sym (item_parts d ds front last p e ∙ ap (λ o. some_item (then_name o (name_of (plain last)))) (sym n))

names_length : (ds : List Datum) (xs : List (List ℕ)) → Some xs ≡ names_of (plain_all ds) → length xs ≡ length ds
names_length [] xs e = let same : xs ≡ [] = cc in ap length same
names_length (d ∷ ds) xs e = go (name_of (plain d)) (names_of (plain_all ds)) (λ ys s. names_length ds ys s) e
  where
    go : (n : Option (List ℕ)) (o : Option (List (List ℕ))) → ((ys : List (List ℕ)) → Some ys ≡ o → length ys ≡ length ds) → Some xs ≡ onto n o → length xs ≡ suc (length ds)
    go None None shorter e = absurd (cc)
    go None (Some ys) shorter e = absurd (cc)
    go (Some x) None shorter e = absurd (cc)
    go (Some x) (Some ys) shorter e = let same : xs ≡ x ∷ ys = cc in ap length same ∙ ap suc (shorter ys refl)

pub item_is : (d : Plain) (ds front : List Datum) (last : Datum) (m name : List ℕ) (xs : List (List ℕ)) → Some (plain_all ds) ≡ parts_of d → ds ≡ front ++ last ∷ []
    → 1 ≤ length front → Some m ≡ name_of (plain last) → name ≡ m → Some xs ≡ names_of (plain_all front) → Some (record { module_name = name; names = xs }) ≡ import_item d
item_is d ds front last m name xs p e l n same s =
    sym (item_parts d ds front last p e ∙ ap (λ n. some_item (then_name (names_of (plain_all front)) n)) (sym n) ∙ ap (λ o. some_item (then_name o (Some m))) (sym s)
    ∙ go xs (names_length front xs s) ∙ ap (λ name. Some (record { module_name = name; names = xs })) (sym same))
  where
    go : (xs : List (List ℕ)) → length xs ≡ length front → item_of (xs ++ m ∷ []) ≡ Some (record { module_name = m; names = xs })
    go [] h = absurd (omega arith)
    go (x ∷ xs) h = item_last xs x m

-- Exports -----------------------------------------------------------------------------------

prototype_parts : (d : Plain) (ds : List Datum) (a : Datum) (n : Option (List ℕ)) → Some (plain_all ds) ≡ parts_of d → 1 ≤ length ds → a ≡ get_or ds 0 a
    → n ≡ name_of (plain a) → export_item d ≡ prototype (onto n (names_of (plain_all (rest_of ds))))
prototype_parts d ds a n p l e s =
    ap export_item (one_listed d ds a p l e) ∙ ap (λ n. prototype (onto n (names_of (plain_all (rest_of ds))))) (sym s)

pub export_is : (d : Plain) (ds : List Datum) (a : Datum) (f name : List ℕ) → Some (plain_all ds) ≡ parts_of d → 1 ≤ length ds → a ≡ get_or ds 0 a
    → Some f ≡ name_of (plain a) → name ≡ f → is_word f (codes "inline") ≡ false → is_some (names_of (plain_all (rest_of ds))) ≡ true
    → Some (record { name = name; count = length (rest_of ds) }) ≡ export_item d
export_is d ds a f name p l e n same w s =
    sym (prototype_parts d ds a (Some f) p l e n ∙ go (names_of (plain_all (rest_of ds))) s refl ∙ ap (λ name. Some (record { name = name; count = length (rest_of ds) })) (sym same))
  where
    go : (o : Option (List (List ℕ))) → is_some o ≡ true → o ≡ names_of (plain_all (rest_of ds))
        → prototype (onto (Some f) o) ≡ Some (record { name = f; count = length (rest_of ds) })
    go None s h = absurd (cc)
    go (Some xs) s h =
        ap (λ b. if b then None else Some (record { name = f; count = length xs })) w
        ∙ ap (λ n. Some (record { name = f; count = n })) (names_length (rest_of ds) xs h)
