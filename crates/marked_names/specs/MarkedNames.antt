-- Names with marks, as pairs of both.
use Rattle.std.specs.Prelude.{ℕ, Bool, ◌&&◌, nat_eq, List, Option, position}
use Rattle.std.specs.List.{list_any}
use Rattle.scheme_data.specs.Names.{is_same}

-- whether it is this name with this mark
abbrev pub is_marked : List ℕ → ℕ → List ℕ × ℕ → Bool
is_marked x m e = is_same e.0 x && nat_eq e.1 m

-- whether a name with a mark is among them
abbrev pub has_marked : List (List ℕ × ℕ) → List ℕ → ℕ → Bool
has_marked names x m = list_any (is_marked x m) names

-- the place of a name with a mark
abbrev pub marked_place : List ℕ → ℕ → List (List ℕ × ℕ) → Option ℕ
marked_place x m names = position (is_marked x m) names
