-- The number of a word, from its digits in order.
use Rattle.std.specs.Prelude.{ℕ, ◌+◌, ◌-◌, ◌*◌, ◌^◌, List, [], ◌∷◌, nat_eq, nat_lt, nat_le, Bool, true, false, ◌&&◌, if◌then◌else◌, Option, Some, None, ℤ, pos, negsuc}
use Rattle.scheme_data.specs.Decimal.{is_digit}
use Rattle.c_tree.specs.Names.{is_numeral}

-- a number with a digit more, while no fixnum is further from 0
abbrev pub with_digit : ℕ → ℕ → Option ℕ
with_digit n d = if is_digit d && nat_le (10 * n + (d - 48)) (2 ^ 60) then Some (10 * n + (d - 48)) else None

abbrev pub digits_then : Option ℕ → (ℕ → Option ℕ) → Option ℕ
digits_then None rest = None
digits_then (Some n) rest = rest n

abbrev pub with_digits : ℕ → List ℕ → Option ℕ
with_digits n [] = Some n
with_digits n (d ∷ ds) = digits_then (with_digit n d) (λ m. with_digits m ds)

-- how far from 0 the fixnum is that has these digits
abbrev pub magnitude_of : List ℕ → Option ℕ
magnitude_of digits = if is_numeral digits then with_digits 0 digits else None

-- a minus sign stands only below 0
abbrev pub signed_fixnum : Bool → ℕ → Option ℤ
signed_fixnum true n = if nat_eq n 0 then None else Some (negsuc (n - 1))
signed_fixnum false n = if nat_lt n (2 ^ 60) then Some (pos n) else None

abbrev pub with_sign : Bool → Option ℕ → Option ℤ
with_sign negative None = None
with_sign negative (Some n) = signed_fixnum negative n
