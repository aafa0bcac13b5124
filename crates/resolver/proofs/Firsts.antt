-- Each element once, where it comes first: what a walk collects, and what follows for all elements.
use Rattle.std.proofs.Common.{◌≡◌, ℕ, Bool, true, false, not, ◌&&◌, ◌||◌, cond, if◌then◌else◌, List, [], ◌∷◌, ◌++◌, refl, sym, ap, ◌∙◌, append_assoc}
use Rattle.std.proofs.lemmas.Bool.{and_parts, or_left, or_right}
use Rattle.std.proofs.lemmas.List.{append-nil}
use Rattle.std.proofs.lemmas.List.Folds.{list_any-append}
use Rattle.std.specs.List.{filter, list_any, AllByRecursion as Each}
use Rattle.scheme_data.specs.Names.{is_same}
use Rattle.core_tree.specs.declared.tree.Use.{Use}
use Rattle.core_tree.specs.WellFormed.{module_of, row_of, same_use}
use Rattle.resolver.specs.Firsts.{firsts}
use Rattle.resolver.specs.Parts.{with_first}
use Rattle.resolver.proofs.FormedParts.{word_is}

-- What tests keep ---------------------------------------------------------------------------

kept_twice : {X : Type 0} (p q r : X → Bool) → ((x : X) → (q x && p x) ≡ r x) → (xs : List X) → filter p (filter q xs) ≡ filter r xs
kept_twice p q r h [] = refl
kept_twice p q r h (x ∷ xs) = go (q x) (h x) (kept_twice p q r h xs)
  where
    go : (b : Bool) → (b && p x) ≡ r x → filter p (filter q xs) ≡ filter r xs → filter p (cond b (x ∷ filter q xs) (filter q xs)) ≡ cond (r x) (x ∷ filter r xs) (filter r xs)
    go true e later = λ j. cond (e j) (x ∷ later j) (later j)
    go false e later = later ∙ ap (λ b. cond b (x ∷ filter r xs) (filter r xs)) e

all_kept : {X : Type 0} (xs : List X) → filter (λ y. true) xs ≡ xs
all_kept [] = refl
all_kept (x ∷ xs) = ap (λ ys. x ∷ ys) (all_kept xs)

seen_already : (again seen : Bool) → (again ≡ true → seen ≡ true) → (not again && not seen) ≡ not seen
seen_already true seen h = sym (ap not (h refl))
seen_already false seen h = refl

neither : (again seen : Bool) → (not again && not seen) ≡ not (seen || (again || false))
neither true true = refl
neither true false = refl
neither false true = refl
neither false false = refl

-- What a walk collects ----------------------------------------------------------------------

module _ {X : Type 0} (same : X → X → Bool) (follows : (x y z : X) → same x y ≡ true → same y z ≡ true → same x z ≡ true) where
  any_same : (x y : X) (zs : List X) → same x y ≡ true → list_any (same y) zs ≡ true → list_any (same x) zs ≡ true
  any_same x y [] e a = a
  any_same x y (z ∷ zs) e a = go (same y z) refl a (any_same x y zs e)
    where
      go : (b : Bool) → same y z ≡ b → (b || list_any (same y) zs) ≡ true → (list_any (same y) zs ≡ true → list_any (same x) zs ≡ true) → (same x z || list_any (same x) zs) ≡ true
      go true f any later = or_left (same x z) (list_any (same x) zs) (follows x y z e f)
      go false f any later = or_right (same x z) (list_any (same x) zs) (later any)

  -- a walk puts behind what it has seen those elements that come first and weren't seen
  pub with_first_is : (seen xs : List X) → with_first same seen xs ≡ seen ++ filter (λ y. not (list_any (same y) seen)) (firsts same xs)
  with_first_is seen [] = sym (append-nil seen)
  with_first_is seen (x ∷ xs) = go (list_any (same x) seen) refl (with_first_is seen xs) (with_first_is (seen ++ x ∷ []) xs)
    where
      go : (b : Bool) → list_any (same x) seen ≡ b
          → with_first same seen xs ≡ seen ++ filter (λ y. not (list_any (same y) seen)) (firsts same xs)
          → with_first same (seen ++ x ∷ []) xs ≡ (seen ++ x ∷ []) ++ filter (λ y. not (list_any (same y) (seen ++ x ∷ []))) (firsts same xs)
          → with_first same (if b then seen else seen ++ x ∷ []) xs
          ≡ seen ++ cond (not b) (x ∷ filter (λ y. not (list_any (same y) seen)) (filter (λ y. not (same y x)) (firsts same xs))) (filter (λ y. not (list_any (same y) seen)) (filter (λ y. not (same y x)) (firsts same xs)))
      go true e old longer =
          old ∙ ap (λ ys. seen ++ ys)
          (sym (kept_twice (λ y. not (list_any (same y) seen)) (λ y. not (same y x)) (λ y. not (list_any (same y) seen))
          (λ y. seen_already (same y x) (list_any (same y) seen) (λ again. any_same y x seen again e)) (firsts same xs)))
      go false e old longer =
          longer ∙ append_assoc seen (x ∷ []) (filter (λ y. not (list_any (same y) (seen ++ x ∷ []))) (firsts same xs))
          ∙ ap (λ ys. seen ++ x ∷ ys)
          (sym (kept_twice (λ y. not (list_any (same y) seen)) (λ y. not (same y x)) (λ y. not (list_any (same y) (seen ++ x ∷ [])))
          (λ y. neither (same y x) (list_any (same y) seen) ∙ ap not (sym (list_any-append (same y) seen (x ∷ [])))) (firsts same xs)))

  pub firsts_are : (xs : List X) → with_first same [] xs ≡ firsts same xs
  firsts_are xs = with_first_is [] xs ∙ all_kept (firsts same xs)

pub names_first : (xs : List (List ℕ)) → with_first is_same [] xs ≡ firsts is_same xs
names_first xs = firsts_are is_same (λ x y z e f. ap (λ w. is_same w z) (word_is x y e) ∙ f) xs

use_follows : (u v w : Use) → same_use u v ≡ true → same_use v w ≡ true → same_use u w ≡ true
use_follows u v w e f =
    let parts = and_parts (is_same (module_of u) (module_of v)) (is_same (row_of u).name (row_of v).name) e in
    ap (λ m. is_same m (module_of w) && is_same (row_of u).name (row_of w).name) (word_is (module_of u) (module_of v) parts.0)
    ∙ ap (λ n. is_same (module_of v) (module_of w) && is_same n (row_of w).name) (word_is (row_of u).name (row_of v).name parts.1) ∙ f

pub uses_first : (us : List Use) → with_first same_use [] us ≡ firsts same_use us
uses_first us = firsts_are same_use use_follows us

-- All elements ------------------------------------------------------------------------------

module _ {X : Type 0} (same : X → X → Bool) (P Q : X → Type 0) (alike : (x y : X) → P x → P y → same x y ≡ true → Q y → Q x) where
  each_kept : (p : X → Bool) (xs : List X) → Each P xs → Each P (filter p xs)
  each_kept p [] h = tt
  each_kept p (x ∷ xs) h = go (p x) (each_kept p xs h.1)
    where
      go : (b : Bool) → Each P (filter p xs) → Each P (cond b (x ∷ filter p xs) (filter p xs))
      go true later = (h.0, later)
      go false later = later

  each_first : (xs : List X) → Each P xs → Each P (firsts same xs)
  each_first [] h = tt
  each_first (x ∷ xs) h = (h.0, each_kept (λ y. not (same y x)) (firsts same xs) (each_first xs h.1))

  each_again : (x : X) (ys : List X) → P x → Q x → Each P ys → Each Q (filter (λ y. not (same y x)) ys) → Each Q ys
  each_again x [] p q h k = tt
  each_again x (y ∷ ys) p q h k = go (same y x) refl k (each_again x ys p q h.1)
    where
      go : (b : Bool) → same y x ≡ b → Each Q (cond (not b) (y ∷ filter (λ y. not (same y x)) ys) (filter (λ y. not (same y x)) ys))
          → (Each Q (filter (λ y. not (same y x)) ys) → Each Q ys) → Q y × Each Q ys
      go true e those later = (alike y x h.0 p e q, later those)
      go false e those later = (those.0, later those.1)

  -- what holds of each element that comes first, and with one also of the same ones, holds of all
  pub each_by_firsts : (xs : List X) → Each P xs → Each Q (firsts same xs) → Each Q xs
  each_by_firsts [] h k = tt
  each_by_firsts (x ∷ xs) h k = (k.0, each_by_firsts xs h.1 (each_again x (firsts same xs) h.0 k.0 (each_first xs h.1) k.1))
