-- How numbers are spelled in decimal, with digits that compute.
use Rattle.std.specs.Prelude.{ℕ, zero, suc, ◌+◌, ◌-◌, ◌*◌, ◌/◌, ◌%◌, nat_lt, nat_le, Bool, ◌&&◌, if◌then◌else◌, List, [], ◌∷◌, ℤ, pos, negsuc}

abbrev pub is_digit : ℕ → Bool
is_digit b = nat_le 48 b && nat_le b 57

-- the digits after a number, read as its next ones
abbrev pub digits_value : ℕ → List ℕ → ℕ
digits_value n [] = n
digits_value n (d ∷ ds) = digits_value (10 * n + (d - 48)) ds

-- the digits of n in front of a text, for a number of at most so many digits
abbrev pub digits_onto : ℕ → ℕ → List ℕ → List ℕ
digits_onto zero n text = text
digits_onto (suc count) n text = if nat_lt n 10 then (48 + n) ∷ text else digits_onto count (n / 10) ((48 + n % 10) ∷ text)

-- a number below 10^20
unfoldable pub decimal_text : ℕ → List ℕ
decimal_text n = digits_onto 20 n []

-- decimal, with a minus sign below 0
abbrev pub number_text : ℤ → List ℕ
number_text (pos n) = decimal_text n
number_text (negsuc n) = 45 ∷ decimal_text (suc n)
