-- What std's parser reads of 1 to 19 digits.
use Rattle.std.proofs.Common.{◌≡◌, ℕ, ◌<◌, ◌≤◌, ◌^◌, List, length, Result, Ok, Err, arith, rules, ap}
use Rattle.std.specs.Prelude.{true, ◌&&◌, nat_le}
use Rattle.std.specs.List.{list_all}
use Rattle.std.specs.Str.{IsUtf8}
use Rattle.std.specs.Str.Parse.{digits_value, ParsesUnsigned}
use Rattle.std.specs.Result.{OkIff}
use Rattle.std.proofs.lemmas.Bool.{and_parts}
use Rattle.std.proofs.lemmas.Bool.Decides.{nat_tests}
use Rattle.std.proofs.lemmas.Fmt.{IsAscii-from_digits}
use Rattle.std.proofs.lemmas.Str.{IsUtf8-from_ascii}
use Rattle.std.proofs.lemmas.Str.Parse.{IsNumeralModel, numerals_by_value, parse_digits, digits_value_short}
use Rattle.scheme_data.specs.Decimal.{is_digit}
use Rattle.commands.specs.Numbers.{is_numeral}

models : IsNumeralModel (λ ds. list_all is_digit ds ≡ true) (digits_value 10)
models = numerals_by_value (λ ds. list_all is_digit ds ≡ true) (search rules)

digits_of : (word : List ℕ) → is_numeral word ≡ true → list_all is_digit word ≡ true
digits_of word is = (and_parts (nat_le 1 (length word) && nat_le (length word) 19) (list_all is_digit word) is).1

length_of : (word : List ℕ) → is_numeral word ≡ true → (nat_le 1 (length word) ≡ true) × (nat_le (length word) 19 ≡ true)
length_of word is = and_parts (nat_le 1 (length word)) (nat_le (length word) 19) (and_parts (nat_le 1 (length word) && nat_le (length word) 19) (list_all is_digit word) is).0

at_most : (a b : ℕ) → nat_le a b ≡ true → a ≤ b
at_most a b is = grind (arith, nat_tests)

pub numeral_is_text : (word : List ℕ) → is_numeral word ≡ true → IsUtf8 word
numeral_is_text word is = IsUtf8-from_ascii word (IsAscii-from_digits word (models.to word (digits_of word is)))

-- a number of 19 digits fits in 64 bits
numeral_fits : (word : List ℕ) → is_numeral word ≡ true → digits_value 10 word < 2 ^ 64
numeral_fits word is =
    let below = digits_value_short models word 19 (digits_of word is) (at_most (length word) 19 (length_of word is).1) in
    omega (arith, below)

read : {E : Type 0} (n : ℕ) (P : Type 0) (r : Result ℕ E) → P → OkIff r P n → r ≡ Ok n
read n P (Ok m) holds is = ap (λ (k : ℕ). Ok k) is.1
read n P (Err e) holds is = absurd (is holds)

pub numeral_is_read : {E : Type 0} (word : List ℕ) (r : Result ℕ E) → is_numeral word ≡ true → ParsesUnsigned 64 10 word r → r ≡ Ok (digits_value 10 word)
numeral_is_read word r is parses =
    read (digits_value 10 word) ((0 < length word) × (digits_value 10 word < 2 ^ 64)) r (at_most 1 (length word) (length_of word is).0, numeral_fits word is) (parse_digits models 64 word r parses (digits_of word is))
