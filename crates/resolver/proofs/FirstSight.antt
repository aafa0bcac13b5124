-- Names in order of first sight.
use Rattle.std.proofs.Common.{◌≡◌, ℕ, ◌+◌, ◌<◌, ◌≤◌, Bool, true, false, not, ◌&&◌, ◌||◌, if◌then◌else◌, nat_eq, List, [], ◌∷◌, ◌++◌, map, length, drop, get_or, Option, Some, None, Result, IfOk, refl, sym, ap, subst, ◌∙◌, arith}
use Rattle.std.proofs.lemmas.List.{drop_more}
use Rattle.std.proofs.lemmas.List.Folds.{list_any-append}
use Rattle.std.specs.Cmp.Lexicographic.{pointwise, bytes_decides}
use Rattle.scheme_data.specs.Names.{is_same}
use Rattle.scheme_data.specs.Data.{Plain, Number, Character, Truth, Unspecified, String, Symbol, Listed, Dotted, Vector, Plains, none, more, plain, plain_all}
use Rattle.scheme_data.specs.declared.datum.Place.{Place}
use Rattle.scheme_data.specs.declared.datum.Datum.{Datum}
use Rattle.scheme_data.specs.declared.datum.Datum.TheVariants as datum
use Rattle.name_table.specs.Names.{has_name}
use Rattle.resolver.specs.declared.built_head.Import.{Import}
use Rattle.resolver.specs.BuiltHeads.{symbol_of}
use Rattle.resolver.specs.Trees.{import_tree}
use Rattle.resolver.specs.declared.tops.TopForm.{TopForm}
use Rattle.resolver.specs.Names.{is_special}
use Rattle.resolver.specs.Drafts.{Defines, Evaluates, imported_names, outside_name, outside_in, outside_in_all, outside_in_tops}
use Rattle.resolver.specs.Drafts as drafts
use Rattle.resolver.specs.Parts.{top_of, with_first, outside_in_top}
use Rattle.resolver.proofs.HeadLayers.{plain_list}
use Rattle.resolver.proofs.Lists.{rest_is}
use Rattle.resolver.proofs.Calls.{rest_of}

pub with_first_joined : (seen xs ys : List (List ℕ)) → with_first is_same seen (xs ++ ys) ≡ with_first is_same (with_first is_same seen xs) ys
with_first_joined seen [] ys = refl
with_first_joined seen (x ∷ xs) ys = with_first_joined (if has_name seen x then seen else seen ++ x ∷ []) xs ys

-- Names are seen ----------------------------------------------------------------------------

or_false : (b : Bool) → (b || false) ≡ b
or_false true = refl
or_false false = refl

or_new : (a b c : Bool) → ((a || (b || false)) || c) ≡ (a || (b || c))
or_new true b c = refl
or_new false true c = refl
or_new false false c = refl

or_seen : (a b c : Bool) → (b ≡ true → a ≡ true) → (a || c) ≡ (a || (b || c))
or_seen true b c h = refl
or_seen false true c h = absurd (let e = h refl in cc)
or_seen false false c h = refl

pub seen_first : (seen xs : List (List ℕ)) (name : List ℕ) → has_name (with_first is_same seen xs) name ≡ (has_name seen name || has_name xs name)
seen_first seen [] name = sym (or_false (has_name seen name))
seen_first seen (x ∷ xs) name = go (has_name seen x) refl (λ s. seen_first s xs name)
  where
    go : (t : Bool) → has_name seen x ≡ t → ((s : List (List ℕ)) → has_name (with_first is_same s xs) name ≡ (has_name s name || has_name xs name))
        → has_name (with_first is_same (if t then seen else seen ++ x ∷ []) xs) name ≡ (has_name seen name || (pointwise nat_eq name x || has_name xs name))
    go true e h =
        h seen ∙ or_seen (has_name seen name) (pointwise nat_eq name x) (has_name xs name)
        (λ same. ap (has_name seen) ((bytes_decides name x).0 same) ∙ e)
    go false e h =
        h (seen ++ x ∷ []) ∙ ap (λ b. b || has_name xs name) (list_any-append (λ y. pointwise nat_eq name y) seen (x ∷ []))
        ∙ or_new (has_name seen name) (pointwise nat_eq name x) (has_name xs name)

pub seen_all : (xs : List (List ℕ)) (name : List ℕ) → has_name (with_first is_same [] xs) name ≡ has_name xs name
seen_all xs name = seen_first [] xs name

-- Tables with the same names give the same names of other modules' functions.
module _ (xs ys all : List (List ℕ)) (same : (name : List ℕ) → has_name xs name ≡ has_name ys name) where
  outside_name_same : (params : List (List ℕ)) (o : Option (List ℕ)) → outside_name xs all params o ≡ outside_name ys all params o
  outside_name_same params None = refl
  outside_name_same params (Some name) =
      ap (λ b. if (not (has_name params name) && not (is_special name)) && (not (has_name all name) && b) then name ∷ [] else []) (same name)

  mutual
    outside_in_same : (params : List (List ℕ)) (d : Plain) → outside_in xs all params d ≡ outside_in ys all params d
    outside_in_same params (Number n) = refl
    outside_in_same params (Symbol name mark) = refl
    outside_in_same params (Character b) = refl
    outside_in_same params (Truth t) = refl
    outside_in_same params Unspecified = refl
    outside_in_same params (String text) = refl
    outside_in_same params (Dotted es tail) = refl
    outside_in_same params (Vector es) = refl
    outside_in_same params (Listed none) = refl
    outside_in_same params (Listed (more d ds)) =
        ap (λ ns. ns ++ outside_in_all xs all params ds) (outside_name_same params (symbol_of d))
        ∙ ap (λ ns. outside_name ys all params (symbol_of d) ++ ns) (outside_all_same params ds)

    outside_all_same : (params : List (List ℕ)) (ds : Plains) → outside_in_all xs all params ds ≡ outside_in_all ys all params ds
    outside_all_same params none = refl
    outside_all_same params (more d ds) =
        ap (λ ns. ns ++ outside_in_all xs all params ds) (outside_in_same params d)
        ∙ ap (λ ns. outside_in ys all params d ++ ns) (outside_all_same params ds)

-- Imports -----------------------------------------------------------------------------------

abbrev pub AreImported : List Import → List (List ℕ) → ℕ → Type 0
AreImported items table i = with_first is_same [] (imported_names (map import_tree items)) ≡ with_first is_same table (imported_names (map import_tree (drop i items)))

pub imported_more : (items : List Import) (table new : List (List ℕ)) (i : ℕ) (item : Import) → i < length items → item ≡ get_or items i item → AreImported items table i
    → new ≡ with_first is_same table item.names → AreImported items new (i + 1)
imported_more items table new i item l e h n =
    let rest = imported_names (map import_tree (drop (i + 1) items)) in
    h ∙ ap (λ (items : List Import). with_first is_same table (imported_names (map import_tree items))) (drop_more items i item l)
    ∙ ap (λ (item : Import). with_first is_same table (item.names ++ rest)) (sym e)
    ∙ with_first_joined table item.names rest ∙ ap (λ table. with_first is_same table rest) (sym n)

-- Names in a body ---------------------------------------------------------------------------

pub form_collected : {E : Type 0} (imported all params old mid new : List (List ℕ)) (at : Place) (ds xs : List Datum) (first : Datum) (r : Result (Unit {0}) E)
    → xs ≡ ds → 1 ≤ length xs → first ≡ get_or xs 0 first → mid ≡ with_first is_same old (outside_name imported all params (symbol_of (plain first)))
    → IfOk r (λ done. new ≡ with_first is_same mid (outside_in_all imported all params (plain_all (rest_of xs))))
    → IfOk r (λ done. new ≡ with_first is_same old (outside_in imported all params (plain (datum.List at ds))))
form_collected imported all params old mid new at ds [] first r same l e m n = absurd (omega arith)
form_collected imported all params old mid new at ds (x ∷ xs) first r same l e m n =
    let rest : rest_of (x ∷ xs) ≡ xs = rest_is 1 (x ∷ xs) in
    subst (λ names. IfOk r (λ done. new ≡ names))
    (ap (λ seen. with_first is_same seen (outside_in_all imported all params (plain_all (rest_of (x ∷ xs))))) m
    ∙ sym (with_first_joined old (outside_name imported all params (symbol_of (plain first))) (outside_in_all imported all params (plain_all (rest_of (x ∷ xs)))))
    ∙ ap (λ (y : Datum). with_first is_same old (outside_name imported all params (symbol_of (plain y)) ++ outside_in_all imported all params (plain_all (rest_of (x ∷ xs))))) e
    ∙ ap (λ (ds : List Datum). with_first is_same old (outside_name imported all params (symbol_of (plain x)) ++ outside_in_all imported all params (plain_all ds))) rest
    ∙ sym (ap (λ d. with_first is_same old (outside_in imported all params d)) (plain_list at (x ∷ xs)))
    ∙ ap (λ (ds : List Datum). with_first is_same old (outside_in imported all params (plain (datum.List at ds)))) same)
    n

abbrev pub AreCollected : List (List ℕ) → List (List ℕ) → List (List ℕ) → List (List ℕ) → List (List ℕ) → List Datum → ℕ → Type 0
AreCollected imported all params old names ds i =
    with_first is_same old (outside_in_all imported all params (plain_all ds)) ≡ with_first is_same names (outside_in_all imported all params (plain_all (drop i ds)))

pub collected_more : (imported all params old names new : List (List ℕ)) (ds : List Datum) (i : ℕ) (d : Datum) → i < length ds → d ≡ get_or ds i d
    → AreCollected imported all params old names ds i → new ≡ with_first is_same names (outside_in imported all params (plain d))
    → AreCollected imported all params old new ds (i + 1)
collected_more imported all params old names new ds i d l e h n =
    let rest = outside_in_all imported all params (plain_all (drop (i + 1) ds)) in
    h ∙ ap (λ (ds : List Datum). with_first is_same names (outside_in_all imported all params (plain_all ds))) (drop_more ds i d l)
    ∙ ap (λ (d : Datum). with_first is_same names (outside_in imported all params (plain d) ++ rest)) (sym e)
    ∙ with_first_joined names (outside_in imported all params (plain d)) rest ∙ ap (λ names. with_first is_same names rest) (sym n)

-- Names in top-level forms ------------------------------------------------------------------

in_tops : (imported all : List (List ℕ)) (t : drafts.TopForm) (ts : List drafts.TopForm)
    → outside_in_tops imported all (t ∷ ts) ≡ outside_in_top imported all t ++ outside_in_tops imported all ts
in_tops imported all (Defines d) ts = refl
in_tops imported all (Evaluates d) ts = refl

in_top_same : (xs ys all : List (List ℕ)) → ((name : List ℕ) → has_name xs name ≡ has_name ys name) → (t : drafts.TopForm) → outside_in_top xs all t ≡ outside_in_top ys all t
in_top_same xs ys all same (Defines d) = outside_all_same xs ys all same d.params d.body
in_top_same xs ys all same (Evaluates d) = outside_in_same xs ys all same [] d

abbrev pub AreOutside : List Import → List (List ℕ) → List (List ℕ) → List TopForm → ℕ → Type 0
AreOutside imports all names ts i =
    with_first is_same [] (outside_in_tops (imported_names (map import_tree imports)) all (map top_of ts))
    ≡ with_first is_same names (outside_in_tops (imported_names (map import_tree imports)) all (map top_of (drop i ts)))

pub outside_more : (imports : List Import) (imported all names new : List (List ℕ)) (ts : List TopForm) (i : ℕ) (t : TopForm) → i < length ts → t ≡ get_or ts i t
    → AreOutside imports all names ts i → imported ≡ with_first is_same [] (imported_names (map import_tree imports))
    → new ≡ with_first is_same names (outside_in_top imported all (top_of t)) → AreOutside imports all new ts (i + 1)
outside_more imports imported all names new ts i t l e h m n =
    let from = imported_names (map import_tree imports) in
    let rest = outside_in_tops from all (map top_of (drop (i + 1) ts)) in
    h ∙ ap (λ (ts : List TopForm). with_first is_same names (outside_in_tops from all (map top_of ts))) (drop_more ts i t l)
    ∙ ap (λ (t : TopForm). with_first is_same names (outside_in_tops from all (top_of t ∷ map top_of (drop (i + 1) ts)))) (sym e)
    ∙ ap (with_first is_same names) (in_tops from all (top_of t) (map top_of (drop (i + 1) ts)))
    ∙ with_first_joined names (outside_in_top from all (top_of t)) rest
    ∙ sym (ap (λ new. with_first is_same new rest) (n ∙ ap (with_first is_same names) (in_top_same imported from all (λ name. ap (λ t. has_name t name) m ∙ seen_all from name) (top_of t))))
