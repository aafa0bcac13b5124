-- Entries by their names.
use Rattle.std.specs.Prelude.{◌≡◌, ℕ, List, Bool, Some, is_some, if◌then◌else◌}
use Rattle.std.specs.Map.{lookup}
use Rattle.scheme_data.specs.Names.{is_same}

abbrev pub has_key : {A : Type 0} → List ℕ → List (List ℕ × A) → Bool
has_key name entries = is_some (lookup (is_same name) entries)

-- a name has a value, and all others have what they had
abbrev pub IsSet : {A : Type 0} → List (List ℕ × A) → List ℕ → A → List (List ℕ × A) → Type 0
IsSet old name value new = (key : List ℕ) → lookup (is_same key) new ≡ (if is_same key name then Some value else lookup (is_same key) old)
