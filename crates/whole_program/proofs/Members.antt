-- What is among the items of a list, and what each of them is.
use Rattle.std.proofs.Common.{◌≡◌, ◌⊎◌, ℕ, zero, suc, Bool, true, false, not, ◌||◌, ◌&&◌, cond, List, [], ◌∷◌, map, filter, length, Some, find, slice_get, inl, inr, refl, sym, ap, ◌∙◌, subst, arith}
use Rattle.std.specs.List.{list_any, list_all, AllByRecursion as Each}
use Rattle.std.specs.Cmp.Lexicographic.{bytes_decides}
use Rattle.std.proofs.lemmas.Bool.{and_parts, not-true, or_parts, or_left, or_right, true≢false}
use Rattle.std.proofs.lemmas.Option.{same_Some}
use Rattle.scheme_data.specs.Names.{are_distinct, is_same}

abbrev pub Among : {A : Type 0} → A → List A → Type 0
Among x [] = ⊥
Among x (y ∷ ys) = (x ≡ y) ⊎ Among x ys

pub each_at : {A : Type 0} (P : A → Type 0) (x : A) (xs : List A) → Each P xs → Among x xs → P x
each_at P x [] h i = absurd i
each_at P x (y ∷ ys) h (inl e) = subst P (sym e) h.0
each_at P x (y ∷ ys) h (inr i) = each_at P x ys h.1 i

pub each_of : {A : Type 0} (p : A → Bool) (xs : List A) → list_all p xs ≡ true → Each (λ x. p x ≡ true) xs
each_of p [] h = tt
each_of p (x ∷ xs) h = let parts = and_parts (p x) (list_all p xs) h in (parts.0, each_of p xs parts.1)

pub all_of : {A : Type 0} (p : A → Bool) (xs : List A) → Each (λ x. p x ≡ true) xs → list_all p xs ≡ true
all_of p [] h = refl
all_of p (x ∷ xs) h = ap (λ b. b && list_all p xs) h.0 ∙ all_of p xs h.1

pub each_from : {A : Type 0} (P : A → Type 0) (xs : List A) → ((x : A) → Among x xs → P x) → Each P xs
each_from P [] h = tt
each_from P (x ∷ xs) h = (h x (inl refl), each_from P xs (λ y i. h y (inr i)))

pub each_to : {A : Type 0} (P Q : A → Type 0) → ((x : A) → P x → Q x) → (xs : List A) → Each P xs → Each Q xs
each_to P Q f [] h = tt
each_to P Q f (x ∷ xs) h = (f x h.0, each_to P Q f xs h.1)

pub among_at : {A : Type 0} (xs : List A) (k : ℕ) (x : A) → slice_get xs k ≡ Some x → Among x xs
among_at [] k x e = absurd (cc)
among_at (y ∷ ys) zero x e = let same : x ≡ y = cc in inl same
among_at (y ∷ ys) (suc k) x e = inr (among_at ys k x e)

pub among_map : {A B : Type 0} (f : A → B) (xs : List A) (x : A) → Among x xs → Among (f x) (map f xs)
among_map f [] x i = absurd i
among_map f (y ∷ ys) x (inl e) = inl (ap f e)
among_map f (y ∷ ys) x (inr i) = inr (among_map f ys x i)

-- one that passes a test
pub record Passing {A : Type 0} (p : A → Bool) (xs : List A) : Type 0 where
  pub item : A
  pub there : Among item xs
  pub passes : p item ≡ true

pub passing : {A : Type 0} (p : A → Bool) (xs : List A) → list_any p xs ≡ true → Passing p xs
passing p [] h = absurd (cc)
passing p (x ∷ xs) h = go (p x) refl h (λ e. passing p xs e)
  where
    go : (b : Bool) → p x ≡ b → (b || list_any p xs) ≡ true → (list_any p xs ≡ true → Passing p xs) → Passing p (x ∷ xs)
    go true e any others = record { item = x; there = inl refl; passes = e }
    go false e any others = let found = others any in record { item = found.item; there = inr found.there; passes = found.passes }

pub none_passes : {A : Type 0} (p : A → Bool) (xs : List A) → list_any p xs ≡ false → (x : A) → Among x xs → p x ≡ false
none_passes p [] h x i = absurd i
none_passes p (y ∷ ys) h x (inl e) = ap p e ∙ (or_parts (p y) (list_any p ys) h).0
none_passes p (y ∷ ys) h x (inr i) = none_passes p ys (or_parts (p y) (list_any p ys) h).1 x i

pub any_of : {A : Type 0} (p : A → Bool) (xs : List A) (x : A) → Among x xs → p x ≡ true → list_any p xs ≡ true
any_of p [] x i t = absurd i
any_of p (y ∷ ys) x (inl e) t = or_left (p y) (list_any p ys) (ap p (sym e) ∙ t)
any_of p (y ∷ ys) x (inr i) t = or_right (p y) (list_any p ys) (any_of p ys x i t)

-- one that passes a test is kept by it
among_filter : {A : Type 0} (p : A → Bool) (xs : List A) (x : A) → Among x xs → p x ≡ true → Among x (filter p xs)
among_filter p [] x i t = absurd i
among_filter p (y ∷ ys) x (inl e) t = subst (λ b. Among x (cond b (y ∷ filter p ys) (filter p ys))) (sym (ap p (sym e) ∙ t)) (inl e)
among_filter p (y ∷ ys) x (inr i) t = go (p y) (among_filter p ys x i t)
  where
    go : (b : Bool) → Among x (filter p ys) → Among x (cond b (y ∷ filter p ys) (filter p ys))
    go true j = inr j
    go false j = j

of_one : {A : Type 0} (xs : List A) → length xs ≡ 1 → (x y : A) → Among x xs → Among y xs → x ≡ y
of_one [] one x y i j = absurd i
of_one (z ∷ []) one x y (inl e) (inl f) = e ∙ sym f
of_one (z ∷ []) one x y (inl e) (inr j) = absurd j
of_one (z ∷ []) one x y (inr i) j = absurd i
of_one (z ∷ w ∷ ws) one x y i j = absurd (omega arith)

-- where one passes a test, no other does
pub only_passing : {A : Type 0} (p : A → Bool) (xs : List A) → length (filter p xs) ≡ 1 → (x y : A) → Among x xs → Among y xs → p x ≡ true → p y ≡ true → x ≡ y
only_passing p xs one x y i j t u = of_one (filter p xs) one x y (among_filter p xs x i t) (among_filter p xs y j u)

pub found_among : {A : Type 0} (p : A → Bool) (xs : List A) (x : A) → find p xs ≡ Some x → Among x xs × (p x ≡ true)
found_among p [] x e = absurd (cc)
found_among p (y ∷ ys) x e = go (p y) refl e (λ e1. found_among p ys x e1)
  where
    go : (b : Bool) → p y ≡ b → cond b (Some y) (find p ys) ≡ Some x → (find p ys ≡ Some x → Among x ys × (p x ≡ true)) → ((x ≡ y) ⊎ Among x ys) × (p x ≡ true)
    go true t f others = let same : x ≡ y = cc in (inl same, ap p same ∙ t)
    go false t f others = let later = others f in (inr later.0, later.1)

-- Names -------------------------------------------------------------------------------------

pub is_itself : (x : List ℕ) → is_same x x ≡ true
is_itself x = (bytes_decides x x).1 refl

pub same_name : (x y : List ℕ) → is_same x y ≡ true → x ≡ y
same_name x y e = (bytes_decides x y).0 e

-- a name before others isn't among them
pub behind : (y : List ℕ) (ys : List (List ℕ)) → are_distinct (y ∷ ys) ≡ true → (x : List ℕ) → Among x ys → is_same y x ≡ false
behind y ys d x i =
    let parts = and_parts (not (list_any (is_same y) ys)) (are_distinct ys) d in
    none_passes (is_same y) ys (not-true (list_any (is_same y) ys) parts.0) x i

pub distinct_rest : (y : List ℕ) (ys : List (List ℕ)) → are_distinct (y ∷ ys) ≡ true → are_distinct ys ≡ true
distinct_rest y ys d = (and_parts (not (list_any (is_same y) ys)) (are_distinct ys) d).1

-- the one of this name is found
pub found : {A : Type 0} (name : A → List ℕ) (xs : List A) → are_distinct (map name xs) ≡ true → (x : A) → Among x xs → find (λ y. is_same (name y) (name x)) xs ≡ Some x
found name [] d x i = absurd i
found name (y ∷ ys) d x (inl e) =
    ap (λ b. cond b (Some y) (find (λ z. is_same (name z) (name x)) ys)) (ap (λ z. is_same (name y) (name z)) e ∙ is_itself (name y)) ∙ ap Some (sym e)
found name (y ∷ ys) d x (inr i) =
    ap (λ b. cond b (Some y) (find (λ z. is_same (name z) (name x)) ys)) (behind (name y) (map name ys) d (name x) (among_map name ys x i))
    ∙ found name ys (distinct_rest (name y) (map name ys) d) x i

-- no two have one name
pub one_named : {A : Type 0} (name : A → List ℕ) (xs : List A) → are_distinct (map name xs) ≡ true → (x y : A) → Among x xs → Among y xs → name x ≡ name y → x ≡ y
one_named name xs d x y i j e = same_Some x y (sym (found name xs d x i) ∙ ap (λ z. find (λ w. is_same (name w) z) xs) e ∙ found name xs d y j)

-- a name stands at one place
pub one_place : (names : List (List ℕ)) → are_distinct names ≡ true → (j k : ℕ) (x : List ℕ) → slice_get names j ≡ Some x → slice_get names k ≡ Some x → j ≡ k
one_place [] d j k x e f = absurd (cc)
one_place (y ∷ ys) d zero zero x e f = refl
one_place (y ∷ ys) d zero (suc k) x e f = let same : x ≡ y = cc in absurd (true≢false (sym (is_itself y) ∙ ap (is_same y) (sym same) ∙ behind y ys d x (among_at ys k x f)))
one_place (y ∷ ys) d (suc j) zero x e f = let same : x ≡ y = cc in absurd (true≢false (sym (is_itself y) ∙ ap (is_same y) (sym same) ∙ behind y ys d x (among_at ys j x e)))
one_place (y ∷ ys) d (suc j) (suc k) x e f = ap suc (one_place ys (distinct_rest y ys d) j k x e f)
