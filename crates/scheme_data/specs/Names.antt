-- Names as lists of bytes: when two are the same, when no two of a list are, and what has a name as its key.
use Rattle.std.specs.Prelude.{ℕ, List, [], ◌∷◌, nat_eq, Bool, true, not, ◌&&◌}
use Rattle.std.specs.List.{list_any}
use Rattle.std.specs.Cmp.Lexicographic.{pointwise}
use Rattle.std.specs.Global.{Vec}

abbrev pub is_same : List ℕ → List ℕ → Bool
is_same a b = pointwise nat_eq a b

-- no name stands twice
abbrev pub are_distinct : List (List ℕ) → Bool
are_distinct [] = true
are_distinct (x ∷ xs) = not (list_any (is_same x) xs) && are_distinct xs

-- the entries of a map by name, with each key as the bytes that it holds
abbrev pub named : {X : Type 0} → List (Vec ℕ × X) → List (List ℕ × X)
named [] = []
named (e ∷ es) = (e.0.items, e.1) ∷ named es
