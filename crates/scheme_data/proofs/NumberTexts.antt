-- Numbers in decimal: what std's printer writes, and what the digits tell.
use Rattle.std.proofs.Common.{◌≡◌, ℕ, zero, suc, ◌<◌, ◌^◌, List, [], ◌∷◌, length, get_or, ℤ, pos, negsuc, refl, sym, ◌∙◌, ap, arith, rules, FitsSigned, w64, to_z, of_z}
use Rattle.std.specs.Prelude.{true}
use Rattle.std.specs.List.{list_all}
use Rattle.std.specs.Fmt.{decimal, signed_decimal}
use Rattle.std.specs.Int.Signed.{mag}
use Rattle.std.specs.Str.Parse.{digits_value}
use Rattle.scheme_data.specs.Fixnum.{IsFixnum}
use borrow.Author.Tests.{ltb-true}
use Rattle.std.proofs.lemmas.Bool.{and_parts}
use Rattle.std.proofs.lemmas.Fmt.{PrependsLastDigit, decimal_from_prepends, length-decimal-le, decimal_injective, signed_decimal_injective, digits_decimal, first_decimal, decimal_nonempty, decimal_digit}
use Rattle.std.proofs.lemmas.Int.{to_z-of_z}
use Rattle.std.proofs.lemmas.List.{append-nil, nil_from_length}
use Rattle.std.proofs.lemmas.Str.Parse.{IsNumeralModel, numerals_by_value}
use Rattle.scheme_data.specs.Decimal.{is_digit, digits_onto, decimal_text, number_text}

prepends_digits : PrependsLastDigit digits_onto
prepends_digits = search rules

pub decimal_text-decimal : (n : ℕ) → n < 2 ^ 64 → decimal_text n ≡ decimal n
unfolding decimal_text
decimal_text-decimal n small = decimal_from_prepends digits_onto prepends_digits 20 n [] small (length-decimal-le 20 n (omega arith) (omega arith) small) ∙ append-nil (decimal n)

pub number_text-signed_decimal : (z : ℤ) → mag z < 2 ^ 63 → number_text z ≡ signed_decimal z
number_text-signed_decimal (pos n) small = decimal_text-decimal n (omega arith)
number_text-signed_decimal (negsuc n) small = ap (λ ds. 45 ∷ ds) (decimal_text-decimal (suc n) (omega arith))

-- what std's printer writes for an `i64`
pub printed-number_text : (z : ℤ) → FitsSigned w64 z → signed_decimal (to_z w64 (of_z w64 z)) ≡ number_text z
printed-number_text z fits = ap signed_decimal (to_z-of_z w64 z fits) ∙ sym (number_text-signed_decimal z fits.sfits)

pub decimal_text_injective : (m n : ℕ) → m < 2 ^ 64 → n < 2 ^ 64 → decimal_text m ≡ decimal_text n → m ≡ n
decimal_text_injective m n small_m small_n same = decimal_injective m n small_m small_n (sym (decimal_text-decimal m small_m) ∙ same ∙ decimal_text-decimal n small_n)

pub number_text_injective : (y z : ℤ) → mag y < 2 ^ 63 → mag z < 2 ^ 63 → number_text y ≡ number_text z → y ≡ z
number_text_injective y z small_y small_z same = signed_decimal_injective y z small_y small_z (sym (number_text-signed_decimal y small_y) ∙ same ∙ number_text-signed_decimal z small_z)

digit_models : IsNumeralModel (λ ds. list_all is_digit ds ≡ true) (digits_value 10)
digit_models = numerals_by_value (λ ds. list_all is_digit ds ≡ true) (search rules)

pub digits-decimal_text : (n : ℕ) → n < 2 ^ 64 → list_all is_digit (decimal_text n) ≡ true
digits-decimal_text n small = rw (decimal_text-decimal n small) (digits_decimal digit_models n small)

-- one digit or more, of which the first is 0 only where it is alone
pub record IsNumeralText (text : List ℕ) : Type 0 where
  pub first : ℕ
  pub others : List ℕ
  pub parts : text ≡ first ∷ others
  pub first_is_digit : is_digit first ≡ true
  pub others_are_digits : list_all is_digit others ≡ true
  pub no_leading_zero : first ≡ 48 → others ≡ []

numeral_of : (text : List ℕ) → 0 < length text → list_all is_digit text ≡ true → (get_or text 0 0 ≡ 48 → length text ≡ 1) → IsNumeralText text
numeral_of [] some digits zero_alone = absurd (omega arith)
numeral_of (d ∷ ds) some digits zero_alone = record { first = d; others = ds; parts = refl; first_is_digit = (and_parts (is_digit d) (list_all is_digit ds) digits).0; others_are_digits = (and_parts (is_digit d) (list_all is_digit ds) digits).1; no_leading_zero = λ zero. nil_from_length ds (omega (arith, zero_alone zero)) }

first_zero : (n : ℕ) → n < 2 ^ 64 → get_or (decimal n) 0 0 ≡ 48 → length (decimal n) ≡ 1
first_zero zero small first = ap length (decimal_digit 0 (omega arith))
first_zero (suc n) small first = absurd (omega (arith, first_decimal (suc n) (omega arith) small))

pub decimal_text-IsNumeralText : (n : ℕ) → n < 2 ^ 64 → IsNumeralText (decimal_text n)
decimal_text-IsNumeralText n small = rw (decimal_text-decimal n small) (numeral_of (decimal n) (decimal_nonempty n small) (digits_decimal digit_models n small) (first_zero n small))

-- a minus sign exactly below 0, and a numeral
abbrev pub IsSignedText : ℤ → List ℕ → Type 0
IsSignedText (pos n) text = IsNumeralText text
IsSignedText (negsuc n) text = (digits : List ℕ) × (text ≡ 45 ∷ digits) × IsNumeralText digits

pub number_text-IsSignedText : (z : ℤ) → mag z < 2 ^ 63 → IsSignedText z (number_text z)
number_text-IsSignedText (pos n) small = decimal_text-IsNumeralText n (omega arith)
number_text-IsSignedText (negsuc n) small = (decimal_text (suc n), refl, decimal_text-IsNumeralText (suc n) (omega arith))

pub mag_fixnum : (n : ℤ) → IsFixnum n → mag n < 2 ^ 60
mag_fixnum (pos n) fits = omega (arith, ltb-true)
mag_fixnum (negsuc n) fits = omega (arith, ltb-true)

fixnum_fits : (n : ℤ) → IsFixnum n → FitsSigned w64 n
fixnum_fits n fits = let small : mag n < 2 ^ 63 = omega (arith, mag_fixnum n fits) in record { sfits = small }

pub same_fixnum : (m n : ℤ) → IsFixnum n → m ≡ n → to_z w64 (of_z w64 m) ≡ n
same_fixnum m n fits same = ap (λ k. to_z w64 (of_z w64 k)) same ∙ to_z-of_z w64 n (fixnum_fits n fits)
