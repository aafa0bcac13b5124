-- Lists of data, one layer at a time.
use Rattle.std.proofs.Common.{◌≡◌, ℕ, ◌-◌, ◌≤◌, List, [], ◌∷◌, map, length, take, drop, get_or, Some, refl, sym, ap, ◌∙◌, arith, rules}
use Rattle.std.proofs.lemmas.List.{take_all, length-drop}
use Rattle.scheme_data.specs.Data.{Plain, Number, Character, Truth, Unspecified, String, Symbol, Listed, Dotted, Vector, Plains, more, plains, plain, plain_all}
use Rattle.scheme_data.specs.declared.datum.Place.{Place}
use Rattle.scheme_data.specs.declared.datum.Datum.{Datum}
use Rattle.scheme_data.specs.declared.datum.Datum as data_of
use Rattle.scheme_data.specs.declared.datum.Datum.TheVariants as datum
use Rattle.resolver.specs.DatumParts.{parts_of}

plains_all : (ds : List Datum) → plains (map plain ds) ≡ plain_all ds
plains_all [] = refl
plains_all (d ∷ ds) = ap (more (plain d)) (plains_all ds)

plain_layer : (at : Place) (ds : List Datum) → plain (datum.List at ds) ≡ Listed (plains (map plain ds))
plain_layer at ds = search (rules, data_of.the_lemmas)

pub plain_list : (at : Place) (ds : List Datum) → plain (datum.List at ds) ≡ Listed (plain_all ds)
plain_list at ds = plain_layer at ds ∙ ap Listed (plains_all ds)

pub list_parts : (at : Place) (ds xs : List Datum) → xs ≡ ds → Some (plain_all xs) ≡ parts_of (plain (datum.List at ds))
list_parts at ds xs e = ap (λ ds. Some (plain_all ds)) e ∙ sym (ap parts_of (plain_list at ds))

pub listed_is : (d : Plain) (ds : Plains) → Some ds ≡ parts_of d → d ≡ Listed ds
listed_is (Number n) ds e = absurd (cc)
listed_is (Symbol name mark) ds e = absurd (cc)
listed_is (Character b) ds e = absurd (cc)
listed_is (Truth t) ds e = absurd (cc)
listed_is Unspecified ds e = absurd (cc)
listed_is (String text) ds e = absurd (cc)
listed_is (Dotted es tail) ds e = absurd (cc)
listed_is (Vector es) ds e = absurd (cc)
listed_is (Listed es) ds e = let same : ds ≡ es = cc in ap Listed (sym same)

-- `&xs[i..]`
pub rest_is : {A : Type 0} (i : ℕ) (xs : List A) → take (length xs - i) (drop i xs) ≡ drop i xs
rest_is i xs = take_all (length xs - i) (drop i xs) (omega (arith, length-drop i xs))

-- `rest` of `[first, rest @ ..]`
abbrev pub rest_of : List Datum → List Datum
rest_of ds = take (length ds - 1) (drop 1 ds)

all_one : (ds : List Datum) (a : Datum) → 1 ≤ length ds → a ≡ get_or ds 0 a → plain_all ds ≡ more (plain a) (plain_all (rest_of ds))
all_one [] a l e = absurd (omega arith)
all_one (x ∷ ds) a l e =
    let rest : rest_of (x ∷ ds) ≡ ds = rest_is 1 (x ∷ ds) in
    ap (λ (x : Datum). more (plain x) (plain_all ds)) (sym e) ∙ ap (λ (ds : List Datum). more (plain a) (plain_all ds)) (sym rest)

-- a list that matches `[first, rest @ ..]`
pub one_listed : (d : Plain) (ds : List Datum) (a : Datum) → Some (plain_all ds) ≡ parts_of d → 1 ≤ length ds → a ≡ get_or ds 0 a
    → d ≡ Listed (more (plain a) (plain_all (rest_of ds)))
one_listed d ds a p l e = listed_is d (plain_all ds) p ∙ ap Listed (all_one ds a l e)
