-- The number of a word.
use Rattle.std.specs.Prelude.{ℕ, List, [], ◌∷◌, ◌-◌, nat_eq, Bool, ◌&&◌, if◌then◌else◌, Option, Some, None, ℤ, pos, negsuc}
use Rattle.scheme_data.specs.Decimal.{digits_value, number_text}
use Rattle.scheme_data.specs.Names.{is_same}
use Rattle.scheme_data.specs.Fixnum.{is_fixnum}

abbrev pub signed_value : List ℕ → ℤ
signed_value [] = pos 0
signed_value (b ∷ bs) = if nat_eq b 45 then negsuc (digits_value 0 bs - 1) else pos (digits_value 0 (b ∷ bs))

abbrev pub if_spelled : ℤ → List ℕ → Option ℤ
if_spelled n word = if is_same (number_text n) word && is_fixnum n then Some n else None

-- the fixnum of which the word is the text
unfoldable pub number_of : List ℕ → Option ℤ
number_of word = if_spelled (signed_value word) word

-- with a minus sign in front
abbrev pub signed : Bool → List ℕ → List ℕ
signed negative word = if negative then 45 ∷ word else word
