-- How lists of uses grow.
use Rattle.std.proofs.Common.{◌≡◌, ℕ, ◌+◌, ◌<◌, ◌≤◌, Bool, true, false, not, ◌&&◌, ◌||◌, cond, List, [], ◌∷◌, ◌++◌, length, get_or, map, find, drop, take, slice_get, Option, None, Some, nat_eq, refl, sym, ap, ◌∙◌, if◌then◌else◌, append_assoc, drop-cons, add-one}
use Rattle.std.specs.Borrow.{Bor}
use Rattle.std.specs.Cmp.Lexicographic.{pointwise, slice_cmp, nat_list_eq_equiv, texts_ties}
use Rattle.std.specs.Cmp.{both_tied}
use Rattle.std.specs.Ordering.{nat_cmp, ordering_then, is_eq}
use Rattle.std.specs.List.{list_any}
use Rattle.std.specs.Map.{lookup}
use Rattle.std.specs.Option.{option_map, option_and_then, option_copied}
use Rattle.std.proofs.lemmas.Bool.{not-true, not-false}
use Rattle.std.proofs.lemmas.List.{take_more, take_all, map-append}
use Rattle.std.proofs.lemmas.List.Folds.{list_any-append}
use Rattle.std.proofs.lemmas.Option.{get_or_from_slice_get, slice_get_within}
use Rattle.scheme_data.specs.Names.{is_same}
use Rattle.name_table.specs.Names.{has_name}
use Rattle.iface_text.specs.declared.interface.Row.{Row}
use Rattle.iface_text.specs.Format.{IfaceTree}
use Rattle.resolver.specs.BuiltHeads.{ImportTree, is_word}
use Rattle.core_tree.specs.declared.tree.Use.{Use}
use Rattle.core_tree.specs.declared.tree.Use.TheVariants.{From, Need}
use Rattle.core_tree.specs.WellFormed.{module_of, row_of, same_use}
use Rattle.resolver.specs.Elaboration.{onto, both, from, need, from_item, row_for, offered, calls, item_needs, needs, each_use_once}
use Rattle.resolver.specs.Parts.{with_first}
use Rattle.resolver.specs.UseTables.{Key, is_key, OfferSameRows, module_at, HasModules, TakesItem}
use Rattle.resolver.specs.TakenRows.{use_of}
use Rattle.resolver.specs.declared.uses.Taken.{Taken}
use Rattle.resolver.proofs.InterfaceTables.{same_key, key_of, map-cond, Puts}

-- The modules of imported names -------------------------------------------------------------

choose : {A : Type 0} (b d : Bool) (x y : A) → cond b x (cond d x y) ≡ cond (d || (b || false)) x y
choose true true x y = refl
choose true false x y = refl
choose false true x y = refl
choose false false x y = refl

pub name_more : (names : List (List ℕ)) (i : ℕ) (x m : List ℕ) (start old new : List (Key × Bor (List ℕ))) (k : Key) (v : Bor (List ℕ)) → i < length names → x ≡ get_or names i x → k.now ≡ x → v.now ≡ m → TakesItem start old (record { module_name = m; names = take i names }) → Puts old new k v → TakesItem start new (record { module_name = m; names = take (i + 1) names })
name_more names i x m start old new k v within is named own had puts name =
    let more : has_name (take i names) name || (is_word k.now name || false) ≡ has_name (take (i + 1) names) name =
    ap (λ b. has_name (take i names) name || (b || false)) (nat_list_eq_equiv.symm k.now name ∙ ap (pointwise nat_eq name) named)
    ∙ sym (list_any-append (pointwise nat_eq name) (take i names) (x ∷ []))
    ∙ ap (λ y. has_name (take i names ++ y ∷ []) name) is
    ∙ ap (λ l. has_name l name) (sym (take_more names i x within)) in
    ap (option_map (λ (r : Bor (List ℕ)). r.now)) (puts (key_of name))
    ∙ map-cond (λ (r : Bor (List ℕ)). r.now) (same_key k (key_of name)) (Some v) (lookup (is_key name) old)
    ∙ (λ j. cond (sym (texts_ties k.now name) j) (Some (own j)) (had name j))
    ∙ choose (is_word k.now name) (has_name (take i names) name) (Some m) (module_at start name)
    ∙ ap (λ b. cond b (Some m) (module_at start name)) more

pub names_all : (names items : List (List ℕ)) (i : ℕ) (m : List ℕ) (start es : List (Key × Bor (List ℕ))) → length items ≤ i → items ≡ names → TakesItem start es (record { module_name = m; names = take i items }) → TakesItem start es (record { module_name = m; names = names })
names_all names items i m start es past same had name = had name ∙ ap (λ l. if has_name l name then Some m else module_at start name) (take_all i items past ∙ same)

-- Calls -------------------------------------------------------------------------------------

next : {A : Type 0} (xs : List A) (i : ℕ) (x : A) → slice_get xs i ≡ Some x → drop i xs ≡ x ∷ drop (i + 1) xs
next xs i x is = drop-cons xs i x (slice_get_within xs i x is) ∙ (λ j. get_or_from_slice_get xs i x x is j ∷ drop (sym (add-one i) j) xs)

offered_from : (ifs : List IfaceTree) (name : List ℕ) (item : Option ImportTree) → from_item ifs name item ≡ option_and_then (λ m. from m (row_for ifs m name)) (option_map (λ i. i.module_name) item)
offered_from ifs name None = refl
offered_from ifs name (Some i) = refl

-- what a name offers, by the table
offered_at : (ifs : List IfaceTree) (is : List ImportTree) (es : List (Key × Bor (List ℕ))) (name : List ℕ) (found : Option (Bor (List ℕ))) → HasModules es is → found ≡ lookup (is_key name) es → offered ifs is name ≡ option_and_then (λ m. from m (row_for ifs m name)) (option_map (λ m. m.now) found)
offered_at ifs is es name found has value =
    offered_from ifs name (find (λ i. has_name i.names name) is)
    ∙ ap (option_and_then (λ m. from m (row_for ifs m name))) (sym (has name) ∙ ap (option_map (λ (m : Bor (List ℕ)). m.now)) (sym value))

-- no item has the name
pub not_imported : (ifs : List IfaceTree) (is : List ImportTree) (es : List (Key × Bor (List ℕ))) (name : List ℕ) (found : Option (Bor (Bor (List ℕ)))) → HasModules es is → option_copied found ≡ lookup (is_key name) es → found ≡ None → offered ifs is name ≡ None
not_imported ifs is es name found has value none =
    offered_at ifs is es name (option_copied found) has value
    ∙ ap (λ (f : Option (Bor (Bor (List ℕ)))). option_and_then (λ m. from m (row_for ifs m name)) (option_map (λ m. m.now) (option_copied f))) none

-- the first item that has the name imports it from this module
pub imported_from : (ifs : List IfaceTree) (is : List ImportTree) (es : List (Key × Bor (List ℕ))) (name bytes : List ℕ) (found : Option (Bor (Bor (List ℕ)))) (m : Bor (Bor (List ℕ))) (row : Option (Bor Row)) → HasModules es is → option_copied found ≡ lookup (is_key name) es → found ≡ Some m → bytes ≡ m.now.now → option_copied row ≡ row_for ifs bytes name → offered ifs is name ≡ from m.now.now (option_copied row)
imported_from ifs is es name bytes found m row has value some as_bytes row_is =
    offered_at ifs is es name (option_copied found) has value
    ∙ ap (λ (f : Option (Bor (Bor (List ℕ)))). option_and_then (λ n. from n (row_for ifs n name)) (option_map (λ n. n.now) (option_copied f))) some
    ∙ ap (from m.now.now) (ap (λ b. row_for ifs b name) (sym as_bytes) ∙ sym row_is)

both-onto : (us : List Use) (u : Use) (vs : Option (List Use)) → both (Some us) (onto (Some u) vs) ≡ both (Some (us ++ u ∷ [])) vs
both-onto us u None = refl
both-onto us u (Some vs) = ap Some (sym (append_assoc us (u ∷ []) vs))

pub call_stops : (ifs : List IfaceTree) (is : List ImportTree) (names : List (List ℕ)) (us : List Use) (whole : Option (List Use)) (i : ℕ) (name : List ℕ) → slice_get names i ≡ Some name → offered ifs is name ≡ None → whole ≡ both (Some us) (calls ifs is (drop i names)) → None ≡ whole
call_stops ifs is names us whole i name at none had =
    sym (had ∙ ap (λ l. both (Some us) (calls ifs is l)) (next names i name at) ∙ ap (λ o. both (Some us) (onto o (calls ifs is (drop (i + 1) names)))) none)

pub call_goes_on : (ifs : List IfaceTree) (is : List ImportTree) (names : List (List ℕ)) (old new : List Taken) (t : Taken) (whole : Option (List Use)) (i : ℕ) (name : List ℕ) → slice_get names i ≡ Some name → offered ifs is name ≡ Some (use_of t) → new ≡ old ++ t ∷ [] → whole ≡ both (Some (map use_of old)) (calls ifs is (drop i names)) → whole ≡ both (Some (map use_of new)) (calls ifs is (drop (i + 1) names))
call_goes_on ifs is names old new t whole i name at some grown had =
    had ∙ ap (λ l. both (Some (map use_of old)) (calls ifs is l)) (next names i name at)
    ∙ ap (λ o. both (Some (map use_of old)) (onto o (calls ifs is (drop (i + 1) names)))) some
    ∙ both-onto (map use_of old) (use_of t) (calls ifs is (drop (i + 1) names))
    ∙ ap (λ l. both (Some l) (calls ifs is (drop (i + 1) names))) (sym (map-append use_of old (t ∷ [])) ∙ ap (map use_of) (sym grown))

-- Each use once -----------------------------------------------------------------------------

abbrev pub same_pair : Key × Key → Key × Key → Bool
same_pair a b = is_eq (ordering_then (slice_cmp nat_cmp a.0.now b.0.now) (slice_cmp nat_cmp a.1.now b.1.now))

pair_tied : (a b : Key × Key) → (is_same a.0.now b.0.now && is_same a.1.now b.1.now) ≡ same_pair a b
pair_tied a b = both_tied _ _ _ _ (texts_ties a.0.now b.0.now) (texts_ties a.1.now b.1.now)

-- the use is of this name of this module
abbrev pub is_use : Key × Key → Use → Bool
is_use k u = is_same k.0.now (module_of u) && is_same k.1.now (row_of u).name

-- the first i have been seen
pub record AreSeen (taken : List Taken) (i : ℕ) (seen : List (Key × Key)) (us : List Use) : Type 0 where
  pub each : (k : Key × Key) → list_any (same_pair k) seen ≡ list_any (is_use k) us
  pub done : with_first same_use [] (map use_of taken) ≡ with_first same_use us (map use_of (drop i taken))

module_of-use : (m : List ℕ) (r : Row) (b : Bool) → module_of (if b then From m r else Need m r) ≡ m
module_of-use m r true = refl
module_of-use m r false = refl

row_of-use : (m : List ℕ) (r : Row) (b : Bool) → row_of (if b then From m r else Need m r) ≡ r
row_of-use m r true = refl
row_of-use m r false = refl

-- the pair is that of the use
pub record IsPair (k : Key × Key) (t : Taken) : Type 0 where
  pub module_name : k.0.now ≡ t.module_name.now
  pub name : k.1.now ≡ t.row.now.name

pair_module : (k : Key × Key) (t : Taken) → IsPair k t → k.0.now ≡ module_of (use_of t)
pair_module k t p = p.module_name ∙ sym (module_of-use t.module_name.now t.row.now t.is_called)

pair_name : (k : Key × Key) (t : Taken) → IsPair k t → k.1.now ≡ (row_of (use_of t)).name
pair_name k t p = p.name ∙ ap (λ (r : Row). r.name) (sym (row_of-use t.module_name.now t.row.now t.is_called))

here : (taken : List Taken) (i : ℕ) (t : Taken) → i < length taken → t ≡ get_or taken i t → drop i taken ≡ t ∷ drop (i + 1) taken
here taken i t within is = drop-cons taken i t within ∙ (λ j. sym is j ∷ drop (sym (add-one i) j) taken)

seen_is : (seen : List (Key × Key)) (us : List Use) (k : Key × Key) (t : Taken) → IsPair k t → ((q : Key × Key) → list_any (same_pair q) seen ≡ list_any (is_use q) us) → list_any (same_use (use_of t)) us ≡ list_any (same_pair k) seen
seen_is seen us k t p each =
    (λ j. list_any (λ v. is_same (sym (pair_module k t p) j) (module_of v) && is_same (sym (pair_name k t p) j) (row_of v).name) us)
    ∙ sym (each k)

pub seen_again : (taken : List Taken) (i : ℕ) (t : Taken) (k : Key × Key) (seen after : List (Key × Key)) (us : List Use) → i < length taken → t ≡ get_or taken i t → IsPair k t → AreSeen taken i seen us → not (list_any (same_pair k) seen) ≡ false → after ≡ seen → AreSeen taken (i + 1) after us
seen_again taken i t k seen after us within is p had kept same = record {
  each = λ q. ap (list_any (same_pair q)) same ∙ had.each q;
  done =
      had.done ∙ ap (λ l. with_first same_use us (map use_of l)) (here taken i t within is)
      ∙ ap (λ b. with_first same_use (if b then us else us ++ use_of t ∷ []) (map use_of (drop (i + 1) taken))) (seen_is seen us k t p had.each ∙ not-false (list_any (same_pair k) seen) kept);
}

-- the pair is in the set now, and every other pair is where it was
abbrev pub PutsPair : List (Key × Key) → List (Key × Key) → Key × Key → Type 0
PutsPair old new k = (q : Key × Key) → list_any (same_pair q) new ≡ cond (same_pair k q) true (list_any (same_pair q) old)

one_more : (b d : Bool) → cond b true d ≡ d || (b || false)
one_more true true = refl
one_more true false = refl
one_more false true = refl
one_more false false = refl

-- whether it is the use that a pair names
names_use : (k q : Key × Key) (t : Taken) → IsPair k t → same_pair k q ≡ is_use q (use_of t)
names_use k q t p =
    sym (pair_tied k q)
    ∙ (λ j. nat_list_eq_equiv.symm k.0.now q.0.now j && nat_list_eq_equiv.symm k.1.now q.1.now j)
    ∙ (λ j. is_same q.0.now (pair_module k t p j) && is_same q.1.now (pair_name k t p j))

pub seen_first : (taken : List Taken) (i : ℕ) (t : Taken) (k : Key × Key) (seen after : List (Key × Key)) (us new : List Use) → i < length taken → t ≡ get_or taken i t → IsPair k t → AreSeen taken i seen us → not (list_any (same_pair k) seen) ≡ true → PutsPair seen after k → new ≡ us ++ use_of t ∷ [] → AreSeen taken (i + 1) after new
seen_first taken i t k seen after us new within is p had put grown added = record {
  each =
      λ q.
      grown q
      ∙ (λ j. cond (names_use k q t p j) true (had.each q j))
      ∙ one_more (is_use q (use_of t)) (list_any (is_use q) us)
      ∙ sym (list_any-append (is_use q) us (use_of t ∷ []))
      ∙ ap (list_any (is_use q)) (sym added);
  done =
      had.done ∙ ap (λ l. with_first same_use us (map use_of l)) (here taken i t within is)
      ∙ ap (λ b. with_first same_use (if b then us else us ++ use_of t ∷ []) (map use_of (drop (i + 1) taken))) (seen_is seen us k t p had.each ∙ not-true (list_any (same_pair k) seen) put)
      ∙ ap (λ l. with_first same_use l (map use_of (drop (i + 1) taken))) (sym added);
}

-- Interfaces with the same rows -------------------------------------------------------------

module _ (ifs jfs : List IfaceTree) (same : OfferSameRows ifs jfs) where
  item_alike : (name : List ℕ) (item : Option ImportTree) → from_item ifs name item ≡ from_item jfs name item
  item_alike name None = refl
  item_alike name (Some i) = ap (from i.module_name) (same i.module_name name)

  calls_alike : (is : List ImportTree) (names : List (List ℕ)) → calls ifs is names ≡ calls jfs is names
  calls_alike is [] = refl
  calls_alike is (x ∷ xs) = λ j. onto (item_alike x (find (λ i. has_name i.names x) is) j) (calls_alike is xs j)

  item_needs_alike : (m : List ℕ) (names : List (List ℕ)) → item_needs ifs m names ≡ item_needs jfs m names
  item_needs_alike m [] = refl
  item_needs_alike m (x ∷ xs) = λ j. onto (need m (same m x j)) (item_needs_alike m xs j)

  needs_alike : (is : List ImportTree) → needs ifs is ≡ needs jfs is
  needs_alike [] = refl
  needs_alike (i ∷ is) = λ j. both (item_needs_alike i.module_name i.names j) (needs_alike is j)

  -- what is called and what is needed, each once
  pub uses_are : (is slice : List ImportTree) (names : List (List ℕ)) (called all : List Use) (found : Option (List Use)) (added : Bool) → slice ≡ is → found ≡ calls ifs slice names → found ≡ Some called → (if added then Some all else None) ≡ both (Some called) (needs ifs slice) → each_use_once (if added then Some all else None) ≡ each_use_once (both (calls jfs is names) (needs jfs is))
  uses_are is slice names called all found added sliced called_is some needed =
      ap each_use_once
      (needed
      ∙ ap (λ c. both c (needs ifs slice)) (sym some ∙ called_is)
      ∙ ap (λ l. both (calls ifs l names) (needs ifs l)) sliced
      ∙ (λ j. both (calls_alike is names j) (needs_alike is j)))
