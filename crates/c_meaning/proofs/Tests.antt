-- Laws of tests, lists that are empty, and names that are new one after another.
use Rattle.std.proofs.Common.{◌≡◌, ℕ, Bool, true, false, not, ◌&&◌, ◌||◌, List, [], ◌∷◌, ◌++◌, refl, sym, ap, ◌∙◌, append_assoc}
use Rattle.std.specs.Prelude.{map}
use Rattle.std.specs.List.{list_all, list_any, flat_map}
use Rattle.std.proofs.lemmas.Bool.{and_from, and_parts, or_left, or_right}
use Rattle.std.proofs.lemmas.List.{append-nil}
use Rattle.std.proofs.lemmas.List.Folds.{list_any-append}
use Rattle.std.proofs.lemmas.Cmp.{nat_list_eq_equiv}
use Rattle.scheme_data.specs.Names.{are_distinct, is_same}
use Rattle.c_meaning.specs.declared.breach.BadCause.{BadCause}
use Rattle.c_meaning.specs.Breaches.{unless}

-- Laws by cases -----------------------------------------------------------------------------

pub and_true : (a : Bool) → (a && true) ≡ a
and_true true = refl
and_true false = refl

pub and_false : (a : Bool) → (a && false) ≡ false
and_false true = refl
and_false false = refl

pub or_false : (a : Bool) → (a || false) ≡ a
or_false true = refl
or_false false = refl

pub associated : (a b c : Bool) → ((a && b) && c) ≡ (a && (b && c))
associated true b c = refl
associated false b c = refl

pub exchanged : (a b c d : Bool) → ((a && b) && (c && d)) ≡ ((a && c) && (b && d))
exchanged true true c d = refl
exchanged true false true d = refl
exchanged true false false d = refl
exchanged false b c d = refl

pub swapped : (a b c : Bool) → (a && (b && c)) ≡ (b && (a && c))
swapped true true c = refl
swapped true false c = refl
swapped false true c = refl
swapped false false c = refl

pub not-or : (a b : Bool) → not (a || b) ≡ (not a && not b)
not-or true b = refl
not-or false b = refl

pub not_true : (a : Bool) → not a ≡ true → a ≡ false
not_true true h = absurd (cc)
not_true false h = refl

-- Empty lists -------------------------------------------------------------------------------

abbrev pub is_none : {A : Type 0} → List A → Bool
is_none [] = true
is_none (x ∷ xs) = false

pub none_both : {A : Type 0} (xs ys : List A) → is_none (xs ++ ys) ≡ (is_none xs && is_none ys)
none_both [] ys = refl
none_both (x ∷ xs) ys = refl

pub none_map : {A B : Type 0} (f : A → B) (xs : List A) → is_none (map f xs) ≡ is_none xs
none_map f [] = refl
none_map f (x ∷ xs) = refl

pub none_flat : {A B : Type 0} (f : A → List B) (xs : List A) → is_none (flat_map f xs) ≡ list_all (λ x. is_none (f x)) xs
none_flat f [] = refl
none_flat f (x ∷ xs) = none_both (f x) (flat_map f xs) ∙ ap (λ b. is_none (f x) && b) (none_flat f xs)

pub none_is : {A : Type 0} (xs : List A) → is_none xs ≡ true → xs ≡ []
none_is [] h = refl
none_is (x ∷ xs) h = absurd (cc)

pub none_unless : (cause : BadCause) (b : Bool) → is_none (unless cause b) ≡ b
none_unless cause true = refl
none_unless cause false = refl

-- Members -----------------------------------------------------------------------------------

pub same_self : (n : List ℕ) → is_same n n ≡ true
same_self n = nat_list_eq_equiv.refl n

-- what a test and a place in the list give holds of each
pub all_within : (f g : List ℕ → Bool) (xs : List (List ℕ)) → list_all f xs ≡ true → ((n : List ℕ) → f n ≡ true → list_any (is_same n) xs ≡ true → g n ≡ true) → list_all g xs ≡ true
all_within f g [] h each = refl
all_within f g (x ∷ xs) h each =
    let p = and_parts (f x) (list_all f xs) h in
    and_from (g x) (list_all g xs) (each x p.0 (or_left (is_same x x) (list_any (is_same x) xs) (same_self x)))
    (all_within f g xs p.1 (λ n e m. each n e (or_right (is_same n x) (list_any (is_same n) xs) m)))

-- a test that all pass, passed by one that is there
pub all_at : (f : List ℕ → Bool) (n : List ℕ) (xs : List (List ℕ)) → list_all f xs ≡ true → list_any (is_same n) xs ≡ true → ((m : List ℕ) → is_same n m ≡ true → f m ≡ f n) → f n ≡ true
all_at f n [] h m same = absurd (cc)
all_at f n (x ∷ xs) h m same =
    let p = and_parts (f x) (list_all f xs) h in
    go (is_same n x) refl p.0 (λ e. all_at f n xs p.1 (ap (λ b. b || list_any (is_same n) xs) (sym e) ∙ m) same)
  where
    go : (b : Bool) → is_same n x ≡ b → f x ≡ true → (is_same n x ≡ false → f n ≡ true) → f n ≡ true
    go true e first later = sym (same x e) ∙ first
    go false e first later = later e

-- New names ---------------------------------------------------------------------------------

-- each is new behind those that were seen
abbrev pub are_fresh : List (List ℕ) → List (List ℕ) → Bool
are_fresh seen [] = true
are_fresh seen (x ∷ xs) = not (list_any (is_same x) seen) && are_fresh (seen ++ x ∷ []) xs

-- none of the names was seen
abbrev are_unseen : List (List ℕ) → List (List ℕ) → Bool
are_unseen seen xs = list_all (λ x. not (list_any (is_same x) seen)) xs

-- not seen after one more
unseen-push : (seen : List (List ℕ)) (x : List ℕ) (xs : List (List ℕ)) → are_unseen (seen ++ x ∷ []) xs ≡ (are_unseen seen xs && not (list_any (is_same x) xs))
unseen-push seen x [] = refl
unseen-push seen x (y ∷ ys) =
    (λ i. pushed i && unseen-push seen x ys i)
    ∙ exchanged (not (list_any (is_same y) seen)) (not (is_same x y)) (are_unseen seen ys) (not (list_any (is_same x) ys))
    ∙ ap (λ b. (not (list_any (is_same y) seen) && are_unseen seen ys) && b) (sym (not-or (is_same x y) (list_any (is_same x) ys)))
  where
    pushed : not (list_any (is_same y) (seen ++ x ∷ [])) ≡ (not (list_any (is_same y) seen) && not (is_same x y))
    pushed =
        ap not (list_any-append (is_same y) seen (x ∷ []))
        ∙ ap (λ b. not (list_any (is_same y) seen || b)) (or_false (is_same y x) ∙ nat_list_eq_equiv.symm y x)
        ∙ not-or (list_any (is_same y) seen) (is_same x y)

regrouped : (a b c d : Bool) → (a && ((b && c) && d)) ≡ ((a && b) && (c && d))
regrouped true b c d = associated b c d
regrouped false b c d = refl

fresh-unseen : (seen xs : List (List ℕ)) → are_fresh seen xs ≡ (are_unseen seen xs && are_distinct xs)
fresh-unseen seen [] = refl
fresh-unseen seen (x ∷ xs) =
    ap (λ b. not (list_any (is_same x) seen) && b) (fresh-unseen (seen ++ x ∷ []) xs)
    ∙ ap (λ b. not (list_any (is_same x) seen) && (b && are_distinct xs)) (unseen-push seen x xs)
    ∙ regrouped (not (list_any (is_same x) seen)) (are_unseen seen xs) (not (list_any (is_same x) xs)) (are_distinct xs)

none-unseen : (xs : List (List ℕ)) → are_unseen [] xs ≡ true
none-unseen [] = refl
none-unseen (x ∷ xs) = none-unseen xs

-- from the start on, that's being distinct
pub fresh_distinct : (xs : List (List ℕ)) → are_fresh [] xs ≡ are_distinct xs
fresh_distinct xs = fresh-unseen [] xs ∙ ap (λ b. b && are_distinct xs) (none-unseen xs)

pub fresh_append : (seen xs ys : List (List ℕ)) → are_fresh seen (xs ++ ys) ≡ (are_fresh seen xs && are_fresh (seen ++ xs) ys)
fresh_append seen [] ys = ap (λ l. are_fresh l ys) (sym (append-nil seen))
fresh_append seen (x ∷ xs) ys =
    ap (λ b. not (list_any (is_same x) seen) && b) (fresh_append (seen ++ x ∷ []) xs ys)
    ∙ ap (λ l. not (list_any (is_same x) seen) && (are_fresh (seen ++ x ∷ []) xs && are_fresh l ys)) (append_assoc seen (x ∷ []) xs)
    ∙ sym (associated (not (list_any (is_same x) seen)) (are_fresh (seen ++ x ∷ []) xs) (are_fresh (seen ++ x ∷ xs) ys))
