-- Names that are distinct, and their places.
use Rattle.std.proofs.Common.{◌≡◌, ℕ, suc, ◌+◌, ◌≤◌, Bool, true, false, not, ◌||◌, ◌&&◌, cond, List, [], ◌∷◌, ◌++◌, length, None, Some, nat_lt, refl, sym, ap, ◌∙◌, arith, if◌then◌else◌}
use Rattle.std.proofs.lemmas.Bool.Decides.{nat_tests}
use Rattle.std.specs.List.{position_or_len}
use Rattle.std.specs.Cmp.Lexicographic.{nat_list_eq_equiv}
use Rattle.scheme_data.specs.Names.{are_distinct, is_same}
use Rattle.name_table.specs.Names.{has_name, place_of}
use Rattle.c_meaning.specs.Execution.{Names, position_of}

-- Places ------------------------------------------------------------------------------------

one_more : (b : Bool) (n m : ℕ) → n ≡ m → cond (not b) (1 + n) 0 ≡ (if b then 0 else suc m)
one_more true n m e = refl
one_more false n m e = omega (arith, e)

pub places : (x : List ℕ) (names : Names) → position_or_len (is_same x) names ≡ position_of x names
places x [] = refl
places x (y ∷ ys) = one_more (is_same x y) (position_or_len (is_same x) ys) (position_of x ys) (places x ys)

within_more : (b : Bool) (n m : ℕ) → n ≤ m → (if b then 0 else suc n) ≤ suc m
within_more true n m h = omega arith
within_more false n m h = omega arith

pub place_within : (x : List ℕ) (names : Names) → position_of x names ≤ length names
place_within x [] = omega arith
place_within x (y ∷ ys) = within_more (is_same x y) (position_of x ys) (length ys) (place_within x ys)

pub place_some : (x : List ℕ) (names : Names) (k : ℕ) → place_of x names ≡ Some k → k ≡ position_of x names
place_some x names k e = from (nat_lt (position_or_len (is_same x) names) (length names)) e
  where
    from : (b : Bool) → cond b (Some (position_or_len (is_same x) names)) None ≡ Some k → k ≡ position_of x names
    from true h = let i : position_or_len (is_same x) names ≡ k = cc in sym i ∙ places x names
    from false h = absurd (cc)

pub place_none : (x : List ℕ) (names : Names) → place_of x names ≡ None → length names ≡ position_of x names
place_none x names e = from (nat_lt (position_or_len (is_same x) names) (length names)) refl e
  where
    from : (b : Bool) → nat_lt (position_or_len (is_same x) names) (length names) ≡ b → cond b (Some (position_or_len (is_same x) names)) None ≡ None → length names ≡ position_of x names
    from true t h = absurd (cc)
    from false t h =
        let p = places x names in
        let q = place_within x names in
        grind (arith, nat_tests)

-- Distinct names ----------------------------------------------------------------------------

pub and_left : (a b : Bool) → (a && b) ≡ true → a ≡ true
and_left true b h = refl
and_left false b h = absurd (cc)

pub and_right : (a b : Bool) → (a && b) ≡ true → b ≡ true
and_right true b h = h
and_right false b h = absurd (cc)

not_true : (a : Bool) → not a ≡ true → a ≡ false
not_true true h = absurd (cc)
not_true false h = refl

or_false : (a b : Bool) → (a || b) ≡ false → (a ≡ false) × (b ≡ false)
or_false true b h = absurd (cc)
or_false false b h = (refl, h)

-- a name behind others isn't among them
none_before : (x : List ℕ) (xs : Names) (y : List ℕ) (ys : Names) → has_name (xs ++ y ∷ ys) x ≡ false → is_same x y ≡ false
none_before x [] y ys h = (or_false (is_same x y) (has_name ys x) h).0
none_before x (z ∷ zs) y ys h = none_before x zs y ys (or_false (is_same x z) (has_name (zs ++ y ∷ ys) x) h).1

pub distinct_new : (xs : Names) (y : List ℕ) (ys : Names) → are_distinct (xs ++ y ∷ ys) ≡ true → has_name xs y ≡ false
distinct_new [] y ys h = refl
distinct_new (x ∷ xs) y ys h =
    let first = not_true (has_name (xs ++ y ∷ ys) x) (and_left (not (has_name (xs ++ y ∷ ys) x)) (are_distinct (xs ++ y ∷ ys)) h) in
    let other : is_same y x ≡ false = nat_list_eq_equiv.symm y x ∙ none_before x xs y ys first in
    ap (λ b. b || has_name xs y) other ∙ distinct_new xs y ys (and_right (not (has_name (xs ++ y ∷ ys) x)) (are_distinct (xs ++ y ∷ ys)) h)

-- the first part of distinct names is distinct
has_front : (x : List ℕ) (xs ys : Names) → has_name (xs ++ ys) x ≡ false → has_name xs x ≡ false
has_front x [] ys h = refl
has_front x (z ∷ zs) ys h =
    let both = or_false (is_same x z) (has_name (zs ++ ys) x) h in
    ap (λ b. b || has_name zs x) both.0 ∙ has_front x zs ys both.1

pub distinct_front : (xs ys : Names) → are_distinct (xs ++ ys) ≡ true → are_distinct xs ≡ true
distinct_front [] ys h = refl
distinct_front (x ∷ xs) ys h =
    let first = not_true (has_name (xs ++ ys) x) (and_left (not (has_name (xs ++ ys) x)) (are_distinct (xs ++ ys)) h) in
    ap (λ b. not b && are_distinct xs) (has_front x xs ys first) ∙ distinct_front xs ys (and_right (not (has_name (xs ++ ys) x)) (are_distinct (xs ++ ys)) h)
