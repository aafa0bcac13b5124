-- A table of names as the list of them, in order of first sight.
use Rattle.std.specs.Prelude.{◌≡◌, ℕ, Bool, List, Option, Some, position, slice_get, IsTrue}
use Rattle.std.specs.List.{list_any}
use Rattle.std.specs.BTreeMap.{is_at}
use Rattle.std.specs.Cmp.Lexicographic.{slice_cmp}
use Rattle.std.specs.Global.{Vec}
use Rattle.std.specs.Map.{lookup}
use Rattle.std.specs.Ordering.{nat_cmp}
use Rattle.scheme_data.specs.Names.{is_same, are_distinct}

-- whether a name is among them
abbrev pub has_name : List (List ℕ) → List ℕ → Bool
has_name names name = list_any (is_same name) names

-- the place of a name
abbrev pub place_of : List ℕ → List (List ℕ) → Option ℕ
place_of name names = position (is_same name) names

-- each name is found where it stands
abbrev pub AreDistinct : List (List ℕ) → Type 0
AreDistinct names = (i : ℕ) (name : List ℕ) → slice_get names i ≡ Some name → place_of name names ≡ Some i

-- the entries of a map tell the place of each of these names, and no two of them are the same
pub record IsIndex (names : List (List ℕ)) (entries : List (Vec ℕ × ℕ)) : Type 0 where
  pub places : (name : List ℕ) → lookup (is_at (λ k. slice_cmp nat_cmp name k.items)) entries ≡ place_of name names
  pub distinct : IsTrue (are_distinct names)
