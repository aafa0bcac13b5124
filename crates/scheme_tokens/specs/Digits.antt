-- Numbers of any length, read up to a cap.
use Rattle.std.specs.Prelude.{ℕ, List, min, if◌then◌else◌, Option, Some, None}
use Rattle.scheme_data.specs.Decimal.{digits_value}
use Rattle.scheme_tokens.specs.Words.{are_digits}

-- the number that one or more digits spell, and 2^60 + 1 for all that are greater
abbrev pub capped_digits : List ℕ → Option ℕ
capped_digits ds = if are_digits ds then Some (min (digits_value 0 ds) 1152921504606846977) else None
