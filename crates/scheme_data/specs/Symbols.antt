-- What a symbol is (R5RS section 7.1.1).
use Rattle.std.specs.Prelude.{ℕ, ◌≤◌, List, [], ◌∷◌, nat_eq, nat_le, Bool, false, not, ◌&&◌, ◌||◌, IsTrue, length}
use Rattle.std.specs.List.{list_all}
use Rattle.scheme_data.specs.Decimal.{is_digit}

-- letters, digits and `! $ % & * / : < = > ? ^ _ ~ + - . @`
abbrev pub is_symbol_byte : ℕ → Bool
is_symbol_byte b =
    (nat_le 48 b && nat_le b 58) || ((nat_le 60 b && nat_le b 90) || ((nat_le 97 b && nat_le b 122)
    || (nat_eq b 33 || ((nat_le 36 b && nat_le b 38) || ((nat_le 42 b && nat_le b 43) || ((nat_le 45 b && nat_le b 47) || (nat_eq b 94 || (nat_eq b 95 || nat_eq b 126))))))))

abbrev pub is_sign_or_dot : ℕ → Bool
is_sign_or_dot b = nat_eq b 43 || (nat_eq b 45 || nat_eq b 46)

abbrev pub begins_with_digit : List ℕ → Bool
begins_with_digit [] = false
begins_with_digit (b ∷ bs) = is_digit b

abbrev pub is_dot : List ℕ → Bool
is_dot [] = false
is_dot (b ∷ bs) = nat_eq b 46 && nat_eq (length bs) 0

-- neither a dot alone, nor beginning with a digit, nor with `+`, `-` or `.` and then a digit
abbrev pub begins_as_symbol : List ℕ → Bool
begins_as_symbol [] = false
begins_as_symbol (b ∷ bs) = not (is_dot (b ∷ bs)) && (not (is_digit b) && not (is_sign_or_dot b && begins_with_digit bs))

-- from 1 to 255 symbol bytes that begin as a symbol does
pub record IsSymbol (name : List ℕ) : Type 0 where
  pub some : 1 ≤ length name
  pub short : length name ≤ 255
  pub bytes : IsTrue (list_all is_symbol_byte name)
  pub front : IsTrue (begins_as_symbol name)

-- what tells a symbol among runs of symbol bytes
abbrev pub has_symbol_form : List ℕ → Bool
has_symbol_form name = nat_le (length name) 255 && begins_as_symbol name

-- the same, as a test
abbrev pub is_symbol : List ℕ → Bool
is_symbol name = has_symbol_form name && list_all is_symbol_byte name
