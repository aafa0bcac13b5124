-- Numbers in words: 1 to 19 decimal digits, leading zeros allowed.
use Rattle.std.specs.Prelude.{ℕ, nat_le, Bool, ◌&&◌, if◌then◌else◌, List, length, Option, Some, None}
use Rattle.std.specs.List.{list_all}
use Rattle.std.specs.Str.Parse.{digits_value}
use Rattle.scheme_data.specs.Decimal.{is_digit}

abbrev pub is_numeral : List ℕ → Bool
is_numeral word = (nat_le 1 (length word) && nat_le (length word) 19) && list_all is_digit word

-- the number of a word, up to a limit
abbrev pub number_up_to : ℕ → List ℕ → Option ℕ
number_up_to limit word = if is_numeral word && nat_le (digits_value 10 word) limit then Some (digits_value 10 word) else None
