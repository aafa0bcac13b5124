-- Tables of names of which none stands twice.
use Rattle.std.proofs.Common.{◌≡◌, ℕ, ◌+◌, ◌<◌, ◌≤◌, Bool, true, false, if◌then◌else◌, List, [], ◌∷◌, ◌++◌, map, length, drop, get_or, Option, Some, None, refl, sym, ap, subst, ◌∙◌, append_assoc}
use Rattle.std.proofs.lemmas.List.{drop_more, at_drop_all, append-nil}
use Rattle.std.specs.Borrow.{Bor}
use Rattle.std.specs.List.{list_any}
use Rattle.scheme_data.specs.Names.{are_distinct}
use Rattle.scheme_data.proofs.DistinctNames.{twice, added}
use Rattle.scheme_data.specs.Data.{plain, plain_all}
use Rattle.scheme_data.specs.declared.datum.Datum.{Datum}
use Rattle.resolver.specs.declared.definitions.Definition.{Definition}
use Rattle.resolver.specs.declared.tops.TopForm.{TopForm}
use Rattle.resolver.specs.declared.tops.TopForm.TheVariants.{Define, Evaluate}
use Rattle.resolver.specs.BuiltHeads.{is_word, symbol_of}
use Rattle.resolver.specs.Names.{is_bound_name}
use Rattle.resolver.specs.Drafts.{onto_names, names, definitions_in, function_names}
use Rattle.resolver.specs.Parts.{distinct, top_of}
use Rattle.resolver.proofs.Lists.{ahead}

distinct_where : (xs : List (List ℕ)) (t : Bool) → are_distinct xs ≡ t → distinct (Some xs) ≡ (if t then Some xs else None)
distinct_where xs t e = ap (λ t. if t then Some xs else None) e

-- Parameters --------------------------------------------------------------------------------

-- these names are read, and none of them stands twice
pub record IsRead (ds : List Datum) (xs : List (List ℕ)) (i : ℕ) : Type 0 where
  pub none_twice : are_distinct xs ≡ true
  pub so_far : names (plain_all ds) ≡ ahead xs (names (plain_all (drop i ds)))

names_next : (ds : List Datum) (xs : List (List ℕ)) (i : ℕ) (d : Datum) → i < length ds → d ≡ get_or ds i d → IsRead ds xs i
    → names (plain_all ds) ≡ ahead xs (onto_names (symbol_of (plain d)) (names (plain_all (drop (i + 1) ds))))
names_next ds xs i d l e h =
    h.so_far ∙ ap (λ (ds : List Datum). ahead xs (names (plain_all ds))) (drop_more ds i d l)
    ∙ ap (λ (d : Datum). ahead xs (onto_names (symbol_of (plain d)) (names (plain_all (drop (i + 1) ds))))) (sym e)

onto_where : (x : List ℕ) (o : Option (List (List ℕ))) (t : Bool) → is_bound_name x ≡ t → onto_names (Some x) o ≡ (if t then ahead (x ∷ []) o else None)
onto_where x None true e = refl
onto_where x None false e = refl
onto_where x (Some ys) t e = ap (λ t. if t then Some (x ∷ ys) else None) e ∙ last t
  where
    last : (t : Bool) → (if t then Some (x ∷ ys) else None) ≡ (if t then ahead (x ∷ []) (Some ys) else None)
    last true = refl
    last false = refl

next_name : (ds : List Datum) (xs : List (List ℕ)) (i : ℕ) (d : Datum) (x : List ℕ) (t : Bool) → i < length ds → d ≡ get_or ds i d → IsRead ds xs i
    → Some x ≡ symbol_of (plain d) → is_bound_name x ≡ t → names (plain_all ds) ≡ ahead xs (if t then ahead (x ∷ []) (names (plain_all (drop (i + 1) ds))) else None)
next_name ds xs i d x t l e h n b =
    names_next ds xs i d l e h ∙ ap (λ o. ahead xs (onto_names o (names (plain_all (drop (i + 1) ds))))) (sym n)
    ∙ ap (ahead xs) (onto_where x (names (plain_all (drop (i + 1) ds))) t b)

pub not_bound : (ds : List Datum) (xs : List (List ℕ)) (i : ℕ) (d : Datum) (x : List ℕ) → i < length ds → d ≡ get_or ds i d → IsRead ds xs i
    → Some x ≡ symbol_of (plain d) → is_bound_name x ≡ false → None ≡ distinct (names (plain_all ds))
not_bound ds xs i d x l e h n b = sym (ap distinct (next_name ds xs i d x false l e h n b))

pub read_twice : (ds : List Datum) (xs : List (List ℕ)) (i : ℕ) (d : Datum) (x : List ℕ) → i < length ds → d ≡ get_or ds i d → IsRead ds xs i
    → Some x ≡ symbol_of (plain d) → is_bound_name x ≡ true → list_any (is_word x) xs ≡ true → None ≡ distinct (names (plain_all ds))
read_twice ds xs i d x l e h n b t =
    sym (ap distinct (next_name ds xs i d x true l e h n b) ∙ go (names (plain_all (drop (i + 1) ds))))
  where
    go : (o : Option (List (List ℕ))) → distinct (ahead xs (ahead (x ∷ []) o)) ≡ None
    go None = refl
    go (Some ys) = distinct_where (xs ++ x ∷ ys) false (twice xs x ys t)

pub read_more : (ds : List Datum) (xs ys : List (List ℕ)) (i : ℕ) (d : Datum) (x : List ℕ) → i < length ds → d ≡ get_or ds i d → IsRead ds xs i
    → Some x ≡ symbol_of (plain d) → is_bound_name x ≡ true → list_any (is_word x) xs ≡ false → ys ≡ xs ++ x ∷ [] → IsRead ds ys (i + 1)
read_more ds xs ys i d x l e h n b t y = record {
  none_twice = ap are_distinct y ∙ added xs x h.none_twice t;
  so_far = next_name ds xs i d x true l e h n b ∙ go (names (plain_all (drop (i + 1) ds))) ∙ ap (λ ys. ahead ys (names (plain_all (drop (i + 1) ds)))) (sym y);
}
  where
    go : (o : Option (List (List ℕ))) → ahead xs (ahead (x ∷ []) o) ≡ ahead (xs ++ x ∷ []) o
    go None = refl
    go (Some zs) = ap Some (sym (append_assoc xs (x ∷ []) zs))

-- Functions ---------------------------------------------------------------------------------

abbrev names_in : List TopForm → List (List ℕ)
names_in ts = function_names (definitions_in (map top_of ts))

-- the names of these functions are listed, and none of them stands twice
pub record IsListed (ts : List TopForm) (xs : List (List ℕ)) (i : ℕ) : Type 0 where
  pub none_twice : are_distinct xs ≡ true
  pub so_far : names_in ts ≡ xs ++ names_in (drop i ts)

listed_next : (ts : List TopForm) (xs : List (List ℕ)) (i : ℕ) (t : TopForm) → i < length ts → t ≡ get_or ts i t → IsListed ts xs i
    → names_in ts ≡ xs ++ function_names (definitions_in (top_of t ∷ map top_of (drop (i + 1) ts)))
listed_next ts xs i t l e h =
    h.so_far ∙ ap (λ (ts : List TopForm). xs ++ names_in ts) (drop_more ts i t l)
    ∙ ap (λ (t : TopForm). xs ++ function_names (definitions_in (top_of t ∷ map top_of (drop (i + 1) ts)))) (sym e)

listed_here : (ts : List TopForm) (xs : List (List ℕ)) (i : ℕ) (t : TopForm) (d : Definition) → i < length ts → t ≡ get_or ts i t → IsListed ts xs i → t ≡ Define d
    → names_in ts ≡ xs ++ d.name.now ∷ names_in (drop (i + 1) ts)
listed_here ts xs i t d l e h n =
    listed_next ts xs i t l e h ∙ ap (λ (t : TopForm). xs ++ function_names (definitions_in (top_of t ∷ map top_of (drop (i + 1) ts)))) n

pub listed_twice : (ts : List TopForm) (xs : List (List ℕ)) (i : ℕ) (t : TopForm) (d : Definition) → i < length ts → t ≡ get_or ts i t → IsListed ts xs i → t ≡ Define d
    → list_any (is_word d.name.now) xs ≡ true → None ≡ distinct (Some (names_in ts))
listed_twice ts xs i t d l e h n w =
    let rest = names_in (drop (i + 1) ts) in
    sym (ap (λ xs. distinct (Some xs)) (listed_here ts xs i t d l e h n) ∙ distinct_where (xs ++ d.name.now ∷ rest) false (twice xs d.name.now rest w))

pub listed_more : (ts : List TopForm) (xs ys : List (List ℕ)) (i : ℕ) (t : TopForm) (d : Definition) → i < length ts → t ≡ get_or ts i t → IsListed ts xs i → t ≡ Define d
    → list_any (is_word d.name.now) xs ≡ false → ys ≡ xs ++ d.name.now ∷ [] → IsListed ts ys (i + 1)
listed_more ts xs ys i t d l e h n w y = record {
  none_twice = ap are_distinct y ∙ added xs d.name.now h.none_twice w;
  so_far = listed_here ts xs i t d l e h n ∙ sym (append_assoc xs (d.name.now ∷ []) (names_in (drop (i + 1) ts))) ∙ ap (λ ys. ys ++ names_in (drop (i + 1) ts)) (sym y);
}

pub listed_start : (ts : List TopForm) (xs : List (List ℕ)) → xs ≡ [] → IsListed ts xs 0
listed_start ts xs e = subst (λ xs. IsListed ts xs 0) (sym e) (record { none_twice = refl; so_far = refl })

-- an expression has no name
pub listed_form : (ts : List TopForm) (xs : List (List ℕ)) (i : ℕ) (t : TopForm) (d : Bor Datum) → i < length ts → t ≡ get_or ts i t → IsListed ts xs i → t ≡ Evaluate d → IsListed ts xs (i + 1)
listed_form ts xs i t d l e h n = record {
  none_twice = h.none_twice;
  so_far = listed_next ts xs i t l e h ∙ ap (λ (t : TopForm). xs ++ function_names (definitions_in (top_of t ∷ map top_of (drop (i + 1) ts)))) n;
}

pub listed_all : (ts : List TopForm) (xs : List (List ℕ)) (i : ℕ) → length ts ≤ i → IsListed ts xs i → Some xs ≡ distinct (Some (names_in ts))
listed_all ts xs i past h =
    let all : names_in ts ≡ xs = h.so_far ∙ at_drop_all (λ (ts : List TopForm). xs ++ names_in ts) ts i past ∙ append-nil xs in
    sym (ap (λ xs. distinct (Some xs)) all ∙ distinct_where xs true h.none_twice)
