-- What a run of symbol bytes is: a fixnum, a dot, a symbol, or none of these.
use Rattle.std.specs.Prelude.{ℕ, zero, suc, ℤ, pos, negsuc, List, [], ◌∷◌, nat_eq, Bool, false, ◌&&◌, ◌||◌, if◌then◌else◌, Option, Some, None}
use Rattle.std.specs.List.{list_all}
use Rattle.scheme_data.specs.Decimal.{is_digit, digits_value}
use Rattle.scheme_data.specs.Fixnum.{is_fixnum}
use Rattle.scheme_data.specs.Symbols.{is_dot, has_symbol_form}
use Rattle.scheme_tokens.specs.declared.token.Atom.TheVariants as atom
use Rattle.scheme_tokens.specs.declared.token.Word.{Word}
use Rattle.scheme_tokens.specs.declared.token.Word.TheVariants as word

abbrev pub is_space : ℕ → Bool
is_space b = nat_eq b 32 || (nat_eq b 10 || (nat_eq b 9 || (nat_eq b 12 || nat_eq b 13)))

abbrev pub negative : ℕ → ℤ
negative zero = pos 0
negative (suc n) = negsuc n

-- one or more digits
abbrev pub are_digits : List ℕ → Bool
are_digits [] = false
are_digits (d ∷ ds) = is_digit d && list_all is_digit ds

-- the number that a word spells: digits, with or without a sign in front
abbrev pub number_in : List ℕ → Option ℤ
number_in [] = None
number_in (b ∷ bs) =
    if are_digits (b ∷ bs) then Some (pos (digits_value 0 (b ∷ bs)))
    else (if nat_eq b 43 && are_digits bs then Some (pos (digits_value 0 bs))
    else (if nat_eq b 45 && are_digits bs then Some (negative (digits_value 0 bs)) else None))

abbrev pub fixnum_or_bad : ℤ → Word
fixnum_or_bad n = if is_fixnum n then word.Atom (atom.Int n) else word.Bad

abbrev pub number_word : Option ℤ → Option Word
number_word None = None
number_word (Some n) = Some (fixnum_or_bad n)

abbrev pub no_number : List ℕ → Word
no_number w = if is_dot w then word.Dot else (if has_symbol_form w then word.Atom (atom.Sym w) else word.Bad)

abbrev pub number_or_other : List ℕ → Option ℤ → Word
number_or_other w None = no_number w
number_or_other w (Some n) = fixnum_or_bad n

-- what a run of symbol bytes is
unfoldable pub word_of : List ℕ → Word
word_of w = number_or_other w (number_in w)
