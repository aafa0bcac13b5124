-- Names and their places: what is found by a name stands at the name's place.
use Rattle.std.proofs.Common.{◌≡◌, ℕ, zero, suc, ◌+◌, ◌<◌, List, [], ◌∷◌, length, map, get_or, position, slice_get, nat_eq, nat_lt, Bool, true, false, not, ◌&&◌, cond, Option, Some, None, refl, sym, ap, ap₂, subst, ◌∙◌, arith}
use Rattle.std.proofs.Math.Numerals.{one-add}
use Rattle.std.proofs.lemmas.Bool.Decides.{nat_tests}
use Rattle.std.proofs.lemmas.Cmp.{nat_list_eq_equiv}
use Rattle.std.proofs.lemmas.List.{length-map}
use Rattle.std.specs.List.{list_all, find, position_or_len}
use Rattle.std.specs.Option.{option_map, option_and_then}
use Rattle.std.specs.Cmp.Lexicographic.{pointwise}
use Rattle.scheme_data.specs.Names.{is_same}
use Rattle.name_table.specs.Names.{place_of}
use Rattle.core_tree.specs.declared.tree.ImportItem.{ImportItem}
use Rattle.core_tree.specs.declared.tree.Use.{Use}
use Rattle.core_tree.specs.WellFormed.{module_of, row_of}
use Rattle.iface_text.specs.declared.interface.Row.{Row}
use Rattle.std.specs.List.{cons_option}
use Rattle.meaning.specs.Order.{numbers_of, imports_of}
use Rattle.object_text.specs.Format.{ObjectTree}
use Rattle.linker.specs.Links.{same_type, same_types, names_of, exported_row, current_row, imports_in}
use Rattle.linker.specs.Modules.{row_names, tree_of, trees}
use Rattle.linker.specs.declared.indexed.Indexed.{Indexed}
use Rattle.built_table.specs.declared.primitives.Ty.{Ty}
use Rattle.linker.proofs.Visited.{are_below}

pub position_step : {A : Type 0} (p : A → Bool) (x : A) (xs : List A) → position p (x ∷ xs) ≡ cond (p x) (Some 0) (option_map suc (position p xs))
position_step p x xs = go (p x)
  where
    q : ℕ
    q = position_or_len p xs

    later : (b : Bool) → nat_lt q (length xs) ≡ b → cond (nat_lt (suc q) (suc (length xs))) (Some (suc q)) None ≡ option_map suc (cond b (Some q) None)
    later true e = let h : nat_lt (suc q) (suc (length xs)) ≡ true = grind (arith, nat_tests) in ap (λ (b : Bool). cond b (Some (suc q)) None) h
    later false e = let h : nat_lt (suc q) (suc (length xs)) ≡ false = grind (arith, nat_tests) in ap (λ (b : Bool). cond b (Some (suc q)) None) h

    go : (b : Bool) → cond (nat_lt (cond (not b) (1 + q) 0) (suc (length xs))) (Some (cond (not b) (1 + q) 0)) None ≡ cond b (Some 0) (option_map suc (position p xs))
    go true = let h : nat_lt 0 (suc (length xs)) ≡ true = grind (arith, nat_tests) in ap (λ (b : Bool). cond b (Some 0) None) h
    go false = ap (λ (n : ℕ). cond (nat_lt n (suc (length xs))) (Some n) None) (one-add q) ∙ later (nat_lt q (length xs)) refl

-- what has a name stands at the name's place
pub find_at : {A : Type 0} (f : A → List ℕ) (name : List ℕ) (xs : List A) → find (λ x. is_same (f x) name) xs ≡ option_and_then (slice_get xs) (place_of name (map f xs))
find_at f name [] = refl
find_at {A} f name (x ∷ xs) = go (is_same (f x) name) (place_of name (map f xs)) (find_at f name xs) (position_step (λ y. pointwise nat_eq name y) (f x) (map f xs)) (nat_list_eq_equiv.symm (f x) name)
  where
    go : (b : Bool) (o : Option ℕ) → find (λ y. is_same (f y) name) xs ≡ option_and_then (slice_get xs) o
        → place_of name (map f (x ∷ xs)) ≡ cond (pointwise nat_eq name (f x)) (Some 0) (option_map suc o) → b ≡ pointwise nat_eq name (f x)
        → cond b (Some x) (find (λ y. is_same (f y) name) xs) ≡ option_and_then (slice_get (x ∷ xs)) (place_of name (map f (x ∷ xs)))
    go b o found e same = by b o found (e ∙ ap (λ (c : Bool). cond c (Some 0) (option_map suc o)) (sym same))
      where
        by : (b : Bool) (o : Option ℕ) → find (λ y. is_same (f y) name) xs ≡ option_and_then (slice_get xs) o → place_of name (map f (x ∷ xs)) ≡ cond b (Some 0) (option_map suc o)
            → cond b (Some x) (find (λ y. is_same (f y) name) xs) ≡ option_and_then (slice_get (x ∷ xs)) (place_of name (map f (x ∷ xs)))
        by true o found e = ap (option_and_then (slice_get (x ∷ xs))) (sym e)
        by false None found e = found ∙ ap (option_and_then (slice_get (x ∷ xs))) (sym e)
        by false (Some n) found e = found ∙ ap (option_and_then (slice_get (x ∷ xs))) (sym e)

-- the row at the place of its name, in the object at the place of its module's name
abbrev pub row_at : List ℕ → ObjectTree → Option Row
row_at name o = option_and_then (slice_get o.exports) (place_of name (row_names o.exports))

exported_at : (o : Option ObjectTree) (name : List ℕ) → exported_row o name ≡ option_and_then (row_at name) o
exported_at None name = refl
exported_at (Some o) name = find_at (λ r. r.name) name o.exports

pub current_at : (os : List ObjectTree) (u : Use) → current_row os u ≡ option_and_then (row_at (row_of u).name) (option_and_then (slice_get os) (place_of (module_of u) (names_of os)))
current_at os u = ap (λ (o : Option ObjectTree). exported_row o (row_of u).name) (find_at (λ o. o.module_name) (module_of u) os) ∙ exported_at (option_and_then (slice_get os) (place_of (module_of u) (names_of os))) (row_of u).name

pub no_module : (objects : List Indexed) (u : Use) (names : List (List ℕ)) (name : List ℕ) → names ≡ names_of (trees objects) → name ≡ module_of u → None ≡ place_of name names → None ≡ current_row (trees objects) u
no_module objects u names name are is none =
    ap (λ (o : Option ℕ). option_and_then (row_at (row_of u).name) (option_and_then (slice_get (trees objects)) o)) (none ∙ ap₂ place_of is are) ∙ sym (current_at (trees objects) u)

pub object_there : (xs : List Indexed) (m : ℕ) (x : Indexed) → m < length xs → x ≡ get_or xs m x → slice_get (trees xs) m ≡ Some (tree_of x)
object_there [] m x below e = absurd (omega arith)
object_there (y ∷ ys) zero x below e = ap (λ (z : Indexed). Some (tree_of z)) (sym e)
object_there (y ∷ ys) (suc m) x below e = object_there ys m x (omega arith) e

pub row_is : (objects found_in : List Indexed) (u : Use) (names exported : List (List ℕ)) (name row_name : List ℕ) (place : ℕ) (o : Indexed) (found : Option ℕ) → names ≡ names_of (trees objects) → name ≡ module_of u → Some place ≡ place_of name names
    → found_in ≡ objects → place < length found_in → o ≡ get_or found_in place o → exported ≡ row_names o.object.exports → row_name ≡ (row_of u).name → found ≡ place_of row_name exported → option_and_then (slice_get o.object.exports) found ≡ current_row (trees objects) u
row_is objects found_in u names exported name row_name place o found are is at same below there rows row at_row =
    let stands : slice_get (trees objects) place ≡ Some (tree_of o) = ap (λ (os : List Indexed). slice_get (trees os) place) (sym same) ∙ object_there found_in place o below there in
    ap (option_and_then (slice_get o.object.exports)) (at_row ∙ ap₂ place_of row rows)
    ∙ (ap (option_and_then (row_at (row_of u).name)) (sym stands)
    ∙ (ap (λ (n : Option ℕ). option_and_then (row_at (row_of u).name) (option_and_then (slice_get (trees objects)) n)) (at ∙ ap₂ place_of is are) ∙ sym (current_at (trees objects) u)))

-- Signatures --------------------------------------------------------------------------------

pub lengths_differ : (ts us : List Ty) → (length ts ≡ length us → ⊥) → false ≡ same_types ts us
lengths_differ [] [] other = absurd (other refl)
lengths_differ [] (u ∷ us) other = refl
lengths_differ (t ∷ ts) [] other = refl
lengths_differ (t ∷ ts) (u ∷ us) other = go (same_type t u) (lengths_differ ts us (λ e. other (ap suc e)))
  where
    go : (b : Bool) → false ≡ same_types ts us → false ≡ (b && same_types ts us)
    go true e = e
    go false e = refl

-- Numbers of imports ------------------------------------------------------------------------

place_below : (name : List ℕ) (names : List (List ℕ)) (n : ℕ) → place_of name names ≡ Some n → nat_lt n (length names) ≡ true
place_below name names n e = go (nat_lt (position_or_len (λ y. pointwise nat_eq name y) names) (length names)) refl e
  where
    go : (b : Bool) → nat_lt (position_or_len (λ y. pointwise nat_eq name y) names) (length names) ≡ b → cond b (Some (position_or_len (λ y. pointwise nat_eq name y) names)) None ≡ Some n → nat_lt n (length names) ≡ true
    go true h k = let same : position_or_len (λ y. pointwise nat_eq name y) names ≡ n = cc in subst (λ (m : ℕ). nat_lt m (length names) ≡ true) same h
    go false h k = absurd (cc)

numbers_below : (names : List (List ℕ)) (is : List ImportItem) → are_below (length names) (numbers_of names is) ≡ true
numbers_below names [] = refl
numbers_below names (i ∷ is) = go (place_of i.module_name names) refl (numbers_below names is)
  where
    go : (o : Option ℕ) → place_of i.module_name names ≡ o → are_below (length names) (numbers_of names is) ≡ true → are_below (length names) (cons_option o (numbers_of names is)) ≡ true
    go None e rest = rest
    go (Some n) e rest = ap₂ (λ (a b : Bool). a && b) (place_below i.module_name names n e) rest

imports_below : (names : List (List ℕ)) (iss : List (List ImportItem)) → list_all (are_below (length names)) (imports_of names iss) ≡ true
imports_below names [] = refl
imports_below names (is ∷ iss) = ap₂ (λ (a b : Bool). a && b) (numbers_below names is) (imports_below names iss)

pub length_imports : (os : List ObjectTree) → length (imports_in os) ≡ length os
length_imports os = length-map (map (λ o. o.imports) os) (numbers_of (names_of os)) ∙ length-map os (λ o. o.imports)

pub imports_within : (os : List ObjectTree) → list_all (are_below (length os)) (imports_in os) ≡ true
imports_within os = subst (λ (n : ℕ). list_all (are_below n) (imports_in os) ≡ true) (length-map os (λ o. o.module_name)) (imports_below (names_of os) (map (λ o. o.imports) os))
