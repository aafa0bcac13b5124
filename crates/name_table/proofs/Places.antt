-- Where names stand in a list of them.
use Rattle.std.proofs.Common.{◌≡◌, ℕ, zero, suc, ◌+◌, Bool, true, false, not, ◌||◌, cond, List, [], ◌∷◌, ◌++◌, length, Option, None, Some, slice_get, nat_lt, refl, sym, ap, subst, ◌∙◌, arith, one-add}
use Rattle.std.specs.List.{list_any, position_or_len}
use Rattle.std.specs.Option.{is_some, option_map}
use Rattle.std.proofs.lemmas.Bool.{and_parts}
use Rattle.std.proofs.lemmas.Bool.Decides.{nat_tests}
use Rattle.std.specs.BTreeMap.{is_at, insert_entry}
use Rattle.std.specs.Cmp.Lexicographic.{slice_cmp, nat_list_eq_equiv, bytes_decides}
use Rattle.std.specs.Global.{Vec}
use Rattle.std.specs.Map.{lookup}
use Rattle.std.specs.Ordering.{nat_cmp}
use Rattle.scheme_data.specs.Names.{is_same, are_distinct}
use Rattle.scheme_data.proofs.DistinctNames.{added}
use Rattle.scheme_data.proofs.NamedEntries.{lookup-inserted}
use Rattle.name_table.specs.Names.{has_name, place_of, AreDistinct, IsIndex}

-- One place after another --------------------------------------------------------------------

abbrev one_more : Option ℕ → Option ℕ
one_more o = option_map (λ n. suc n) o

below_more : (n k : ℕ) → nat_lt (1 + n) (suc k) ≡ nat_lt n k
below_more n k = grind (arith, nat_tests)

above_none : (k : ℕ) → nat_lt 0 (suc k) ≡ true
above_none k = grind (arith, nat_tests)

moved : (n k : ℕ) (b : Bool) → nat_lt n k ≡ b → cond (nat_lt (1 + n) (suc k)) (Some (1 + n)) None ≡ one_more (cond (nat_lt n k) (Some n) None)
moved n k true e = rw (below_more n k, e) (ap Some (one-add n))
moved n k false e = rw (below_more n k, e) refl

-- the place of a name in a list is 0, or one more than that in the rest
pub place-cons : (name x : List ℕ) (xs : List (List ℕ)) (b : Bool) → is_same name x ≡ b → place_of name (x ∷ xs) ≡ cond b (Some 0) (one_more (place_of name xs))
place-cons name x xs true e = rw (e, above_none (length xs)) refl
place-cons name x xs false e =
    rw e (moved (position_or_len (is_same name) xs) (length xs) (nat_lt (position_or_len (is_same name) xs) (length xs)) refl)

some_more : (o : Option ℕ) → is_some (one_more o) ≡ is_some o
some_more None = refl
some_more (Some n) = refl

has_by : (name x : List ℕ) (xs : List (List ℕ)) (b : Bool) → is_same name x ≡ b → is_some (place_of name xs) ≡ has_name xs name → is_some (place_of name (x ∷ xs)) ≡ has_name (x ∷ xs) name
has_by name x xs true e more = ap is_some (place-cons name x xs true e) ∙ sym (ap (λ b. b || has_name xs name) e)
has_by name x xs false e more = ap is_some (place-cons name x xs false e) ∙ some_more (place_of name xs) ∙ more ∙ sym (ap (λ b. b || has_name xs name) e)

-- a name is there where it has a place
pub place-has : (name : List ℕ) (names : List (List ℕ)) → is_some (place_of name names) ≡ has_name names name
place-has name [] = refl
place-has name (x ∷ xs) = has_by name x xs (is_same name x) refl (place-has name xs)

-- a map that tells the places of names has the key of each of them and no other
pub index-has : (names : List (List ℕ)) (entries : List (Vec ℕ × ℕ)) (name : List ℕ) (key : Vec ℕ) → IsIndex names entries → key.items ≡ name
    → is_some (lookup (is_at (λ k. slice_cmp nat_cmp key.items k.items)) entries) ≡ has_name names name
index-has names entries name key h is = ap is_some (h.places key.items) ∙ place-has key.items names ∙ ap (has_name names) is

-- A new name ---------------------------------------------------------------------------------

other : (a b : Bool) → (a || b) ≡ false → (a ≡ false) × (b ≡ false)
other true b e = absurd (cc)
other false b e = (refl, e)

same_is : (a b : List ℕ) → is_same a b ≡ true → a ≡ b
same_is a b h = (bytes_decides a b).0 h

-- two names that are the same aren't told apart by a third
apart : (q x name : List ℕ) → is_same q x ≡ true → is_same q name ≡ true → is_same name x ≡ false → ⊥
apart q x name p r e =
    let t : true ≡ false = sym p ∙ ap (λ n. is_same n x) (same_is q name r) ∙ e in
    absurd (cc)

added_by : (q x name : List ℕ) (xs : List (List ℕ)) (a b : Bool) → is_same q x ≡ a → is_same q name ≡ b → is_same name x ≡ false
    → place_of q (xs ++ name ∷ []) ≡ cond b (Some (length xs)) (place_of q xs) → place_of q (x ∷ xs ++ name ∷ []) ≡ cond b (Some (suc (length xs))) (place_of q (x ∷ xs))
added_by q x name xs true true p r e more = absurd (apart q x name p r e)
added_by q x name xs true false p r e more = place-cons q x (xs ++ name ∷ []) true p ∙ sym (place-cons q x xs true p)
added_by q x name xs false true p r e more = place-cons q x (xs ++ name ∷ []) false p ∙ ap one_more more
added_by q x name xs false false p r e more = place-cons q x (xs ++ name ∷ []) false p ∙ ap one_more more ∙ sym (place-cons q x xs false p)

-- a new name stands last, and the others where they stood
pub place-added : (q name : List ℕ) (names : List (List ℕ)) → has_name names name ≡ false → place_of q (names ++ name ∷ []) ≡ cond (is_same q name) (Some (length names)) (place_of q names)
place-added q name [] none = place-cons q name [] (is_same q name) refl
place-added q name (x ∷ xs) none =
    let new = other (is_same name x) (has_name xs name) none in
    added_by q x name xs (is_same q x) (is_same q name) refl refl new.0 (place-added q name xs new.1)

pub index-added : (names : List (List ℕ)) (old new : List (Vec ℕ × ℕ)) (name : List ℕ) (key : Vec ℕ) (place : ℕ) → IsIndex names old → has_name names name ≡ false → key.items ≡ name → place ≡ length names
    → new ≡ insert_entry (λ x y. slice_cmp nat_cmp x.items y.items) old key place → IsIndex (names ++ name ∷ []) new
index-added names old new name key place h none is at new_is = record {
  places = λ q.
      ap (lookup (is_at (λ k. slice_cmp nat_cmp q k.items))) new_is
      ∙ lookup-inserted q key place old
      ∙ ap (λ n. cond (is_same q n) (Some place) (lookup (is_at (λ k. slice_cmp nat_cmp q k.items)) old)) is
      ∙ ap (λ n. cond (is_same q name) (Some n) (lookup (is_at (λ k. slice_cmp nat_cmp q k.items)) old)) at
      ∙ ap (cond (is_same q name) (Some (length names))) (h.places q)
      ∙ sym (place-added q name names none);
  distinct = added names name h.distinct none;
}

-- Places of distinct names -------------------------------------------------------------------

not_true : (b : Bool) → not b ≡ true → b ≡ false
not_true true e = absurd (cc)
not_true false e = refl

absent_at : (k : List ℕ) (ks : List (List ℕ)) → list_any (is_same k) ks ≡ false → (i : ℕ) (name : List ℕ) → slice_get ks i ≡ Some name → is_same name k ≡ false
absent_at k [] h i name is = absurd (cc)
absent_at k (y ∷ ys) h zero name is =
    let same : y ≡ name = cc in
    subst (λ n. is_same n k ≡ false) same (nat_list_eq_equiv.symm y k ∙ (other (is_same k y) (list_any (is_same k) ys) h).0)
absent_at k (y ∷ ys) h (suc i) name is = absent_at k ys (other (is_same k y) (list_any (is_same k) ys) h).1 i name is

-- a name at a place has that place
pub distinct-places : (names : List (List ℕ)) → are_distinct names ≡ true → AreDistinct names
distinct-places [] d i name is = absurd (cc)
distinct-places (k ∷ ks) d zero name is =
    let same : name ≡ k = cc in
    place-cons name k ks true ((bytes_decides name k).1 same)
distinct-places (k ∷ ks) d (suc i) name is =
    let parts = and_parts (not (list_any (is_same k) ks)) (are_distinct ks) d in
    place-cons name k ks false (absent_at k ks (not_true (list_any (is_same k) ks) parts.0) i name is)
    ∙ ap one_more (distinct-places ks parts.1 i name is)
