-- What is left of a list from a place on.
use Rattle.std.proofs.Common.{◌≡◌, ℕ, suc, ◌+◌, ◌<◌, ◌≤◌, Bool, true, false, ◌||◌, List, ◌∷◌, length, drop, get_or, slice_get, Some, sym, ap, ◌∙◌, add-one, drop-cons}
use Rattle.std.proofs.lemmas.List.{drop_all}
use Rattle.std.proofs.lemmas.Option.{slice_get_within, get_or_from_slice_get}
use Rattle.std.specs.List.{list_any}

-- the item at a place, and then what is left after it
pub rest_at : {X : Type 0} (xs : List X) (i : ℕ) (x : X) → i < length xs → x ≡ get_or xs i x → drop i xs ≡ x ∷ drop (i + 1) xs
rest_at xs i x inside is =
    drop-cons xs i x inside ∙ ap (λ y. y ∷ drop (suc i) xs) (sym is) ∙ ap (λ n. x ∷ drop n xs) (sym (add-one i))

pub rest_of : {X : Type 0} (xs : List X) (i : ℕ) (x : X) → slice_get xs i ≡ Some x → drop i xs ≡ x ∷ drop (i + 1) xs
rest_of xs i x is = rest_at xs i x (slice_get_within xs i x is) (sym (get_or_from_slice_get xs i x x is))

-- A search: none passes in front of a place
abbrev pub AnyFrom : {X : Type 0} → (X → Bool) → List X → ℕ → Type 0
AnyFrom p xs i = list_any p xs ≡ list_any p (drop i xs)

module _ {X : Type 0} (p : X → Bool) (xs : List X) (i : ℕ) (so_far : AnyFrom p xs i) where
  pub any_here : (x : X) → slice_get xs i ≡ Some x → p x ≡ true → true ≡ list_any p xs
  any_here x is passes = sym (so_far ∙ ap (list_any p) (rest_of xs i x is) ∙ ap (λ b. b || list_any p (drop (i + 1) xs)) passes)

  pub any_on : (x : X) → slice_get xs i ≡ Some x → p x ≡ false → AnyFrom p xs (i + 1)
  any_on x is fails = so_far ∙ ap (list_any p) (rest_of xs i x is) ∙ ap (λ b. b || list_any p (drop (i + 1) xs)) fails

  pub any_end : length xs ≤ i → false ≡ list_any p xs
  any_end over = sym (so_far ∙ ap (list_any p) (drop_all i xs over))

pub rest_got : {X : Type 0} (xs : List X) (i : ℕ) (d : X) → i < length xs → drop i xs ≡ get_or xs i d ∷ drop (i + 1) xs
rest_got xs i d inside = drop-cons xs i d inside ∙ ap (λ n. get_or xs i d ∷ drop n xs) (sym (add-one i))
