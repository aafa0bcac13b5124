-- Units that are taken out of their objects in order, and the main function among those that are chosen.
use Rattle.std.proofs.Common.{◌≡◌, ℕ, zero, suc, ◌+◌, ◌<◌, ◌≤◌, List, [], ◌∷◌, ◌++◌, length, map, set, get_or, drop, slice_get, nat_eq, nat_lt, Bool, true, false, ◌||◌, cond, filter, IsTrue, Option, Some, None, refl, sym, ap, ap₂, subst, ◌∙◌, add-one, arith}
use Rattle.std.proofs.Math.Seq.{drop-cons}
use Rattle.std.proofs.lemmas.Bool.Decides.{nat_tests}
use Rattle.std.proofs.lemmas.List.{append_assoc, map-append, map-set, length-set, length-map}
use Rattle.std.proofs.lemmas.Iterator.Adapters.{position_from-zero}
use Rattle.std.specs.List.{position_from}
use Rattle.scheme_data.specs.Symbols.{IsSymbol}
use Rattle.core_tree.specs.Tree.{Callee}
use Rattle.std.specs.List.{cons_option}
use Rattle.std.specs.Option.{is_some}
use Rattle.meaning.specs.Order.{is_marked, root_of, chosen}
use Rattle.meaning.specs.Program.{main_in}
use Rattle.plan_rules.specs.Joined.{Part}
use Rattle.c_tree.specs.Names.{function_name, is_function_name}
use Rattle.object_text.specs.Format.{ObjectTree, IsMainName, CanBeWritten}
use Rattle.object_text.specs.Parts.{AllAre}
use Rattle.linker.specs.declared.indexed.Indexed.{Indexed}
use Rattle.linker.specs.declared.joining.NamedUnit.{NamedUnit}
use Rattle.linker.specs.Links.{part_of, main_of, has_one_main}
use Rattle.linker.specs.Modules.{tree_of, trees, unit_part, AreApart, IsMain}
use Rattle.linker.proofs.Visited.{are_below, split}
use Rattle.linker.proofs.Places.{object_there}

-- Another place -----------------------------------------------------------------------------

slice_get_set : {A : Type 0} (xs : List A) (n m : ℕ) (x : A) → nat_eq m n ≡ false → slice_get (set xs n x) m ≡ slice_get xs m
slice_get_set [] n m x other = refl
slice_get_set (y ∷ ys) zero zero x other = absurd (cc)
slice_get_set (y ∷ ys) zero (suc m) x other = refl
slice_get_set (y ∷ ys) (suc n) zero x other = refl
slice_get_set (y ∷ ys) (suc n) (suc m) x other = slice_get_set ys n m x (grind (arith, nat_tests))

chosen_set : {A : Type 0} (xs : List A) (n : ℕ) (x : A) (ns : List ℕ) → is_marked ns n ≡ false → chosen (set xs n x) ns ≡ chosen xs ns
chosen_set xs n x [] absent = refl
chosen_set {A} xs n x (m ∷ ns) absent = go (nat_eq n m) refl absent (λ h. chosen_set xs n x ns h)
  where
    go : (b : Bool) → nat_eq n m ≡ b → (b || is_marked ns n) ≡ false → (is_marked ns n ≡ false → chosen (set xs n x) ns ≡ chosen xs ns) → chosen (set xs n x) (m ∷ ns) ≡ chosen xs (m ∷ ns)
    go true e h rest = absurd (cc)
    go false e h rest =
        let other : nat_eq m n ≡ false = grind (arith, nat_tests) in
        ap₂ (λ (o : Option A) (ys : List A). cons_option o ys) (slice_get_set xs n m x other) (rest h)

-- Units -------------------------------------------------------------------------------------

-- what is taken, and what is still to be taken in this order, are what was chosen
pub record Taking (before : List ObjectTree) (order : List ℕ) (taken : List Part) (now : List ObjectTree) (left : List ℕ) : Type 0 where
  pub are : taken ++ map part_of (chosen now left) ≡ map part_of (chosen before order)
  pub apart : AreApart left
  pub below : are_below (length now) left ≡ true

taking_goes_on : (before now : List ObjectTree) (order left : List ℕ) (taken : List Part) (n : ℕ) (o after : ObjectTree) → slice_get now n ≡ Some o → Taking before order taken now (n ∷ left) → Taking before order (taken ++ part_of o ∷ []) (set now n after) left
taking_goes_on before now order left taken n o after at t = record {
  are = append_assoc taken (part_of o ∷ []) (map part_of (chosen (set now n after) left))
      ∙ (ap (λ (ps : List Part). taken ++ part_of o ∷ ps) (ap (map part_of) (chosen_set now n after left t.apart.0))
      ∙ (ap (λ (found : Option ObjectTree). taken ++ map part_of (cons_option found (chosen now left))) (sym at) ∙ t.are));
  apart = t.apart.1;
  below = subst (λ (size : ℕ). are_below size left ≡ true) (sym (length-set now n after)) (split (nat_lt n (length now)) (are_below (length now) left) t.below (λ a b. b));
}

pub place_within : (before now : List ObjectTree) (order left : List ℕ) (taken : List Part) (n size : ℕ) → size ≡ length now → Taking before order taken now (n ∷ left) → n < size
place_within before now order left taken n size e t = split (nat_lt n (length now)) (are_below (length now) left) t.below (λ a b. grind (arith, nat_tests))

pub one_taken : (before : List ObjectTree) (order left : List ℕ) (units more : List NamedUnit) (unit : NamedUnit) (now later : List Indexed) (n : ℕ) (old new : Indexed)
    → more ≡ units ++ unit ∷ [] → unit_part unit ≡ part_of (tree_of old) → n < length now → old ≡ get_or now n old → later ≡ set now n new
    → Taking before order (map unit_part units) (trees now) (n ∷ left) → Taking before order (map unit_part more) (trees later) left
one_taken before order left units more unit now later n old new pushed is low at changed t =
    let found : slice_get (trees now) n ≡ Some (tree_of old) = object_there now n old low at in
    let parts : map unit_part more ≡ map unit_part units ++ part_of (tree_of old) ∷ [] =
    ap (map unit_part) pushed ∙ (map-append unit_part units (unit ∷ []) ∙ ap (λ (p : Part). map unit_part units ++ p ∷ []) is) in
    let objects : trees later ≡ set (trees now) n (tree_of new) = ap trees changed ∙ map-set tree_of now n new in
    rw (parts, objects) (taking_goes_on before (trees now) order left (map unit_part units) n (tree_of old) (tree_of new) found t)

-- The main function -------------------------------------------------------------------------

abbrev pub has_main : ObjectTree → Bool
has_main o = is_some o.main

no_main_of : (o : ObjectTree) → has_main o ≡ false → o.main ≡ None
no_main_of o none = go o.main none
  where
    go : (main : Option (List ℕ)) → is_some main ≡ false → main ≡ None
    go None h = refl
    go (Some name) h = absurd (cc)

-- where none is counted, none has one
none_counted : (os : List ObjectTree) (n : ℕ) (o : ObjectTree) → length (filter has_main os) ≡ 0 → slice_get os n ≡ Some o → has_main o ≡ false
none_counted [] n o none at = absurd (cc)
none_counted (x ∷ xs) n o none at = go (has_main x) n refl none at (λ m h k. none_counted xs m o h k)
  where
    go : (b : Bool) (m : ℕ) → has_main x ≡ b → length (cond b (x ∷ filter has_main xs) (filter has_main xs)) ≡ 0 → slice_get (x ∷ xs) m ≡ Some o → ((i : ℕ) → length (filter has_main xs) ≡ 0 → slice_get xs i ≡ Some o → has_main o ≡ false) → has_main o ≡ false
    go true m e h k rest = absurd (omega (arith, h))
    go false zero e h k rest = let same : x ≡ o = cc in subst (λ (y : ObjectTree). has_main y ≡ false) same e
    go false (suc m) e h k rest = rest m h k

-- where one is counted, no other has one
one_counted : (os : List ObjectTree) (root n : ℕ) (r o : ObjectTree) → length (filter has_main os) ≡ 1 → slice_get os root ≡ Some r → has_main r ≡ true → slice_get os n ≡ Some o → nat_eq n root ≡ false → has_main o ≡ false
one_counted [] root n r o one at main there other = absurd (cc)
one_counted (x ∷ xs) root n r o one at main there other = go (has_main x) root n refl one at there other (λ i j h k l apart. one_counted xs i j r o h k main l apart)
  where
    go : (b : Bool) (i j : ℕ) → has_main x ≡ b → length (cond b (x ∷ filter has_main xs) (filter has_main xs)) ≡ 1 → slice_get (x ∷ xs) i ≡ Some r → slice_get (x ∷ xs) j ≡ Some o → nat_eq j i ≡ false
        → ((p q : ℕ) → length (filter has_main xs) ≡ 1 → slice_get xs p ≡ Some r → slice_get xs q ≡ Some o → nat_eq q p ≡ false → has_main o ≡ false) → has_main o ≡ false
    go true zero zero e h k l apart rest = absurd (cc)
    go true zero (suc j) e h k l apart rest = none_counted xs j o (omega (arith, h)) l
    go true (suc i) j e h k l apart rest = let none : has_main r ≡ false = none_counted xs i r (omega (arith, h)) k in absurd (cc)
    go false zero j e h k l apart rest = let same : x ≡ r = cc in absurd (cc)
    go false (suc i) zero e h k l apart rest = let same : x ≡ o = cc in subst (λ (y : ObjectTree). has_main y ≡ false) same e
    go false (suc i) (suc j) e h k l apart rest = rest i j h k l (grind (arith, nat_tests))

counted : (n : ℕ) → nat_eq n 1 ≡ true → n ≡ 1
counted n e = grind (arith, nat_tests)

-- among those that are chosen the root has the main function
pub main_chosen : (os : List ObjectTree) (root : ℕ) (order : List ℕ) (r : ObjectTree) (name : List ℕ) → has_one_main os ≡ true → slice_get os root ≡ Some r → r.main ≡ Some name → is_marked order root ≡ true
    → main_of (chosen os order) ≡ Some (record { module_name = r.module_name; name = name; params = 1 })
main_chosen os root [] r name one at main there = absurd (cc)
main_chosen os root (n ∷ order) r name one at main there = go (nat_eq root n) refl there (λ h. main_chosen os root order r name one at main h)
  where
    wanted : Option Callee
    wanted = Some (record { module_name = r.module_name; name = name; params = 1 })

    first : (found : Option ObjectTree) → found ≡ Some r → main_of (cons_option found (chosen os order)) ≡ wanted
    first None e = absurd (cc)
    first (Some o) e =
        let same : o ≡ r = cc in
        ap (λ (p : ObjectTree). main_in p.module_name p.main (main_of (chosen os order))) same ∙ ap (λ (m : Option (List ℕ)). main_in r.module_name m (main_of (chosen os order))) main

    later : (found : Option ObjectTree) → ((o : ObjectTree) → found ≡ Some o → has_main o ≡ false) → main_of (chosen os order) ≡ wanted → main_of (cons_option found (chosen os order)) ≡ wanted
    later None none rest = rest
    later (Some o) none rest = ap (λ (m : Option (List ℕ)). main_in o.module_name m (main_of (chosen os order))) (no_main_of o (none o refl)) ∙ rest

    go : (b : Bool) → nat_eq root n ≡ b → (b || is_marked order root) ≡ true → (is_marked order root ≡ true → main_of (chosen os order) ≡ wanted) → main_of (chosen os (n ∷ order)) ≡ wanted
    go true e h rest =
        let same : root ≡ n = grind (arith, nat_tests) in
        first (slice_get os n) (subst (λ (m : ℕ). slice_get os m ≡ Some r) same at)
    go false e h rest =
        let other : nat_eq n root ≡ false = grind (arith, nat_tests) in
        later (slice_get os n) (λ o k. one_counted os root n r o (counted (length (filter has_main os)) one) at (ap is_some main) k other) (rest h)

-- The search for it -------------------------------------------------------------------------

-- one of those from a place on has a main function, and the first that has one is the root
pub record Finding (os : List ObjectTree) (place : ℕ) (left : List ObjectTree) : Type 0 where
  pub root : position_from is_some place (map (λ o. o.main) left) ≡ root_of (map (λ o. o.main) os)
  pub one : length (filter has_main left) ≡ 1
  pub writable : AllAre CanBeWritten left

pub finding_starts : (os : List ObjectTree) → has_one_main os ≡ true → AllAre CanBeWritten os → Finding os 0 os
finding_starts os one writable = record { root = sym (position_from-zero is_some (map (λ o. o.main) os)); one = counted (length (filter has_main os)) one; writable = writable }

pub main_found : (os left : List ObjectTree) (place : ℕ) (o : ObjectTree) (name function : List ℕ) → slice_get os place ≡ Some o → o.main ≡ Some name → function ≡ function_name o.module_name name
    → (IsSymbol o.module_name → IsSymbol name → IsTrue (is_function_name function)) → Finding os place (o ∷ left) → IsMain os place function
main_found os left place o name function at main is named f = record {
  is_root = sym f.root ∙ ap (λ (m : Option (List ℕ)). cond (is_some m) (Some place) (position_from is_some (place + 1) (map (λ p. p.main) left))) main;
  object = o;
  at = at;
  name = name;
  main = main;
  is_function = is;
  named = named f.writable.0.header.module_name (name_of o.main name f.writable.0.header.main main);
}
  where
    name_of : (m : Option (List ℕ)) (x : List ℕ) → IsMainName m → m ≡ Some x → IsSymbol x
    name_of None x h e = absurd (cc)
    name_of (Some y) x h e = let same : y ≡ x = cc in subst IsSymbol same h

-- The count ---------------------------------------------------------------------------------

-- so many were counted, and the rest are left
pub record Counting (objects : List Indexed) (count place : ℕ) (left : List Indexed) : Type 0 where
  pub total : count + length (filter has_main (trees left)) ≡ length (filter has_main (trees objects))
  pub few : count ≤ place

-- In the code -------------------------------------------------------------------------------

pub main_at : (objects : List Indexed) (place : ℕ) (o : Indexed) (name in_module in_name function : List ℕ) → place < length objects → o ≡ get_or objects place o → o.object.main ≡ Some name → in_module ≡ o.object.module_name → in_name ≡ name
    → function ≡ function_name in_module in_name → (IsSymbol in_module → IsSymbol in_name → IsTrue (is_function_name function)) → Finding (trees objects) place (trees (drop place objects)) → IsMain (trees objects) place function
main_at objects place o name in_module in_name function below at main a b is named f =
    main_found (trees objects) (trees (drop (suc place) objects)) place (tree_of o) name function
    (object_there objects place o below at) main (is ∙ ap₂ function_name a b)
    (λ h k. named (subst IsSymbol (sym a) h) (subst IsSymbol (sym b) k))
    (subst (λ (left : List ObjectTree). Finding (trees objects) place left) (ap trees (drop-cons objects place o below ∙ ap (λ (x : Indexed). x ∷ drop (suc place) objects) (sym at))) f)

pub unit_taken : (before : List ObjectTree) (order : List ℕ) (k n : ℕ) (units more : List NamedUnit) (unit : NamedUnit) (now : List Indexed) (old new : Indexed)
    → k < length order → n ≡ get_or order k 0 → more ≡ units ++ unit ∷ [] → unit_part unit ≡ part_of (tree_of old) → old ≡ get_or now n old
    → Taking before order (map unit_part units) (trees now) (drop k order) → Taking before order (map unit_part more) (trees (set now n new)) (drop (k + 1) order)
unit_taken before order k n units more unit now old new low is pushed part at t =
    let left : drop k order ≡ n ∷ drop (k + 1) order = drop-cons order k 0 low ∙ ap₂ (λ (m i : ℕ). m ∷ drop i order) (sym is) (sym (add-one k)) in
    let here : Taking before order (map unit_part units) (trees now) (n ∷ drop (k + 1) order) = subst (λ (ns : List ℕ). Taking before order (map unit_part units) (trees now) ns) left t in
    one_taken before order (drop (k + 1) order) units more unit now (set now n new) n old new pushed part
    (place_within before (trees now) order (drop (k + 1) order) (map unit_part units) n (length now) (sym (length-map now tree_of)) here) at refl here
