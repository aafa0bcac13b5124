-- Members of lists, and looking them up by names that no two of them have.
use Rattle.std.proofs.Common.{◌≡◌, List, [], ◌∷◌, ◌++◌, Bool, true, false, Some, refl, sym, ap, ◌∙◌, inl, inr, ◌⊎◌}
use Rattle.std.specs.Prelude.{ℕ, zero, suc, find, map, not, ◌||◌, slice_get, if◌then◌else◌}
use Rattle.std.specs.List.{list_all, list_any}
use Rattle.std.proofs.lemmas.Bool.{and_from, and_parts, not-true}
use Rattle.std.specs.Cmp.Lexicographic.{bytes_decides}
use Rattle.scheme_data.specs.Names.{are_distinct, is_same}
use Rattle.plan_rules.specs.Translation.{Name}

abbrev pub Has : {X : Type 0} → List X → X → Type 0
Has [] x = ⊥
Has (y ∷ ys) x = (y ≡ x) ⊎ Has ys x

pub has_before : {X : Type 0} (xs ys : List X) (x : X) → Has xs x → Has (xs ++ ys) x
has_before [] ys x h = absurd h
has_before (y ∷ xs) ys x (inl e) = inl e
has_before (y ∷ xs) ys x (inr h) = inr (has_before xs ys x h)

pub has_after : {X : Type 0} (xs ys : List X) (x : X) → Has ys x → Has (xs ++ ys) x
has_after [] ys x h = h
has_after (y ∷ xs) ys x h = inr (has_after xs ys x h)

pub has_at : {X : Type 0} (xs : List X) (k : ℕ) (x : X) → slice_get xs k ≡ Some x → Has xs x
has_at [] k x e = absurd (cc)
has_at (y ∷ ys) zero x e = let same : y ≡ x = cc in inl same
has_at (y ∷ ys) (suc k) x e = inr (has_at ys k x e)

pub all_have : {X : Type 0} (test : X → Bool) (xs : List X) (x : X) → Has xs x → list_all test xs ≡ true → test x ≡ true
all_have test [] x h e = absurd h
all_have test (y ∷ ys) x (inl same) e = ap test (sym same) ∙ (and_parts (test y) (list_all test ys) e).0
all_have test (y ∷ ys) x (inr h) e = all_have test ys x h (and_parts (test y) (list_all test ys) e).1

pub each_passes : {X : Type 0} (test : X → Bool) (xs : List X) → ((x : X) → Has xs x → test x ≡ true) → list_all test xs ≡ true
each_passes test [] each = refl
each_passes test (x ∷ xs) each = and_from (test x) (list_all test xs) (each x (inl refl)) (each_passes test xs (λ y h. each y (inr h)))

-- what a test finds is a member that passes it
pub record Passing {X : Type 0} (test : X → Bool) (xs : List X) (x : X) : Type 0 where
  pub member : Has xs x
  pub passes : test x ≡ true

pub passing : {X : Type 0} (test : X → Bool) (xs : List X) (x : X) → find test xs ≡ Some x → Passing test xs x
passing test [] x e = absurd (cc)
passing test (y ∷ ys) x e = go (test y) refl e (λ e1. passing test ys x e1)
  where
    go : (b : Bool) → test y ≡ b → (if b then Some y else find test ys) ≡ Some x → (find test ys ≡ Some x → Passing test ys x) → Passing test (y ∷ ys) x
    go true eb q later = let same : y ≡ x = cc in record { member = inl same; passes = ap test (sym same) ∙ eb }
    go false eb q later = let h = later q in record { member = inr h.member; passes = h.passes }

-- Names -------------------------------------------------------------------------------------

-- the name of a member is among the names
pub named_there : {X : Type 0} (name : X → Name) (xs : List X) (x : X) → Has xs x → list_any (is_same (name x)) (map name xs) ≡ true
named_there name [] x h = absurd h
named_there name (y ∷ ys) x (inl e) = ap (λ b. b || list_any (is_same (name x)) (map name ys)) ((bytes_decides (name x) (name y)).1 (ap name (sym e)))
named_there name (y ∷ ys) x (inr h) = go (is_same (name x) (name y)) (named_there name ys x h)
  where
    go : (b : Bool) → list_any (is_same (name x)) (map name ys) ≡ true → (b || list_any (is_same (name x)) (map name ys)) ≡ true
    go true e = refl
    go false e = e

-- with distinct names, each member is found by its name
pub found_by_name : {X : Type 0} (name : X → Name) (xs : List X) (x : X) → Has xs x → are_distinct (map name xs) ≡ true → find (λ y. is_same (name y) (name x)) xs ≡ Some x
found_by_name name [] x h distinct = absurd h
found_by_name name (y ∷ ys) x (inl e) distinct = ap (λ b. if b then Some y else find (λ z. is_same (name z) (name x)) ys) ((bytes_decides (name y) (name x)).1 (ap name e)) ∙ ap (λ z. Some z) e
found_by_name name (y ∷ ys) x (inr h) distinct = ap (λ b. if b then Some y else find (λ z. is_same (name z) (name x)) ys) (other (is_same (name y) (name x)) refl) ∙ found_by_name name ys x h parts.1
  where
    parts : (not (list_any (is_same (name y)) (map name ys)) ≡ true) × (are_distinct (map name ys) ≡ true)
    parts = and_parts (not (list_any (is_same (name y)) (map name ys))) (are_distinct (map name ys)) distinct

    other : (b : Bool) → is_same (name y) (name x) ≡ b → is_same (name y) (name x) ≡ false
    other true eb =
        let bad : false ≡ true = sym (not-true (list_any (is_same (name y)) (map name ys)) parts.0) ∙ ap (λ n. list_any (is_same n) (map name ys)) ((bytes_decides (name y) (name x)).0 eb) ∙ named_there name ys x h in absurd (cc)
    other false eb = eb
