-- No symbol begins with a digit.
use Rattle.std.proofs.Common.{◌≡◌, ℕ, List, ◌∷◌, length, Bool, true, false, if◌then◌else◌, nat_eq, Option, Some, None, refl, sym, ap, ◌∙◌}
use Rattle.std.specs.Prelude.{nat_le, not, ◌&&◌, ◌||◌}
use Rattle.std.specs.List.{list_all}
use Rattle.scheme_data.specs.Decimal.{is_digit}
use Rattle.scheme_data.specs.Symbols.{is_dot, is_sign_or_dot, begins_with_digit, is_symbol_byte}
use Rattle.c_tree.specs.Names.{is_letter, coded_at, onto_name, unmangled_then, unmangled_from, unmangled, is_some_symbol, is_mangled_symbol, is_numeral, is_symbol_or_number}

no_symbol : (d : ℕ) → is_digit d ≡ true → (o : Option (List ℕ)) → is_some_symbol (onto_name d o) ≡ false
no_symbol d digit None = refl
no_symbol d digit (Some n) =
    ap (λ t. (nat_le (length (d ∷ n)) 255 && (not (is_dot (d ∷ n)) && (not t && not (is_sign_or_dot d && begins_with_digit n)))) && list_all is_symbol_byte (d ∷ n)) digit
    ∙ by (nat_le (length (d ∷ n)) 255) (is_dot (d ∷ n))
  where
    by : (x y : Bool) → ((x && (not y && false)) && list_all is_symbol_byte (d ∷ n)) ≡ false
    by true true = refl
    by true false = refl
    by false y = refl

no_mangled_symbol : (d : ℕ) (rest : List ℕ) → is_digit d ≡ true → is_mangled_symbol (d ∷ rest) ≡ false
unfolding unmangled
no_mangled_symbol d rest digit =
    ap (λ t. is_some_symbol (unmangled_then (if t || is_letter d then Some (record { byte = d; size = 1 }) else (if nat_eq d 95 then coded_at rest else None)) (λ skip. unmangled_from skip rest))) digit
    ∙ no_symbol d digit (unmangled_from 0 rest)

pub number_alone : (left : List ℕ) (d : ℕ) (rest : List ℕ) → left ≡ d ∷ rest → is_digit d ≡ true → is_numeral left ≡ is_symbol_or_number left
number_alone left d rest is digit = sym (ap (λ t. t || is_numeral left) (ap is_mangled_symbol is ∙ no_mangled_symbol d rest digit))
