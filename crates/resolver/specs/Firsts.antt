-- A list without what stands in it again.
use Rattle.std.specs.Prelude.{◌≡◌, List, [], ◌∷◌, filter, nat_eq, Bool, not, refl}

-- each element once, where it comes first
abbrev pub firsts : {X : Type 0} → (X → X → Bool) → List X → List X
firsts same [] = []
firsts same (x ∷ xs) = x ∷ filter (λ y. not (same y x)) (firsts same xs)

a_later_one_is_left_out : firsts nat_eq (2 ∷ 1 ∷ 2 ∷ 3 ∷ 1 ∷ []) ≡ 2 ∷ 1 ∷ 3 ∷ []
a_later_one_is_left_out = refl
