-- The names that are written are names, and other numbers have other names.
use Rattle.std.proofs.Common.{◌≡◌, ℕ, ◌<◌, ◌^◌, List, [], ◌∷◌, ◌++◌, refl, ◌∙◌, ap, append_assoc, arith}
use Rattle.std.specs.Prelude.{Bool, true, false, IsTrue, nat_lt, nat_le, ◌&&◌, ◌||◌}
use Rattle.std.specs.List.{list_all}
use Rattle.std.proofs.lemmas.Bool.Decides.{nat_tests}
use Rattle.std.proofs.lemmas.Bool.{and_from}
use Rattle.scheme_data.specs.Decimal.{is_digit, decimal_text}
use Rattle.scheme_data.specs.Symbols.{IsSymbol}
use Rattle.scheme_data.proofs.NumberTexts.{IsNumeralText, decimal_text-IsNumeralText, decimal_text_injective}
use Rattle.c_tree.specs.Names.{mangled, function_name, maker_name, initializer_name, is_mangled_symbol, is_symbol_or_number, is_cut, is_of_module, is_module_function, is_entry_name, is_maker_name, is_initializer_name, is_function_name, is_main, is_numeral, is_global_name, is_local_name, is_label_name, is_end_label_name, is_variable_name, is_target_name, local_name, label_name}
use Rattle.c_tree.proofs.Cuts.{cut-mangled}
use Rattle.c_tree.proofs.Unmangled.{mangled_symbol}

-- Functions ---------------------------------------------------------------------------------

function_name_parts : (m n : List ℕ) → function_name m n ≡ 102 ∷ 95 ∷ (mangled m ++ 95 ∷ 95 ∷ mangled n)
unfolding function_name
function_name_parts m n = ap (λ bs. 102 ∷ 95 ∷ bs) (append_assoc (mangled m) (95 ∷ 95 ∷ []) (mangled n))

of_module : (is_name : List ℕ → Bool) (m rest : List ℕ) → IsSymbol m → is_name rest ≡ true → is_of_module is_name (mangled m ++ 95 ∷ 95 ∷ rest) ≡ true
of_module is_name m rest is named =
    ap (is_cut is_name) (cut-mangled m rest) ∙ and_from (is_mangled_symbol (mangled m)) (is_name rest) (mangled_symbol m is) named

symbol_or_number : (n : List ℕ) → IsSymbol n → is_symbol_or_number (mangled n) ≡ true
symbol_or_number n is = ap (λ b. b || is_numeral (mangled n)) (mangled_symbol n is)

pub function_name-is_function_name : (m n : List ℕ) → IsSymbol m → IsSymbol n → IsTrue (is_function_name (function_name m n))
unfolding is_function_name is_module_function
function_name-is_function_name m n of_m of_n =
    rw (function_name_parts m n) (rw (of_module is_symbol_or_number m (mangled n) of_m (symbol_or_number n of_n)) refl)

pub maker_name-is_function_name : (m : List ℕ) → IsSymbol m → IsTrue (is_function_name (maker_name m))
unfolding is_function_name is_module_function is_entry_name is_maker_name maker_name
maker_name-is_function_name m is = rw (mangled_symbol m is) refl

pub initializer_name-is_function_name : (m : List ℕ) → IsSymbol m → IsTrue (is_function_name (initializer_name m))
unfolding is_function_name is_module_function is_entry_name is_maker_name is_initializer_name initializer_name
initializer_name-is_function_name m is = rw (mangled_symbol m is) refl

pub function_name_not_main : (m n : List ℕ) → is_main (function_name m n) ≡ false
function_name_not_main m n = rw (function_name_parts m n) refl

-- Numbers -----------------------------------------------------------------------------------

is_numeral_one : (d : ℕ) (ds : List ℕ) → is_digit d ≡ true → list_all is_digit ds ≡ true → (d ≡ 48 → ds ≡ []) → is_numeral (d ∷ ds) ≡ true
is_numeral_one d [] first others zero_alone = first
is_numeral_one d (e ∷ ds) first others zero_alone =
    let not_zero : d ≡ 48 → ⊥ = λ zero. let alone : e ∷ ds ≡ [] = zero_alone zero in absurd (cc) in
    let high : (nat_lt 48 d && nat_le d 57) ≡ true = grind (arith, nat_tests) in
    and_from (nat_lt 48 d && nat_le d 57) (is_digit e && list_all is_digit ds) high others

numeral_text : (text : List ℕ) → IsNumeralText text → is_numeral text ≡ true
numeral_text text t = rw t.parts (is_numeral_one t.first t.others t.first_is_digit t.others_are_digits t.no_leading_zero)

pub is_numeral-decimal_text : (n : ℕ) → n < 2 ^ 64 → is_numeral (decimal_text n) ≡ true
is_numeral-decimal_text n small = numeral_text (decimal_text n) (decimal_text-IsNumeralText n small)

pub is_local_name-local_name : (n : ℕ) → n < 2 ^ 64 → IsTrue (is_local_name (local_name n))
unfolding is_local_name local_name
is_local_name-local_name n small = is_numeral-decimal_text n small

pub is_label_name-label_name : (n : ℕ) → n < 2 ^ 64 → IsTrue (is_label_name (label_name n))
unfolding is_label_name label_name
is_label_name-label_name n small = is_numeral-decimal_text n small

pub local_name_is_variable : (x : List ℕ) → is_local_name x ≡ true → is_variable_name x ≡ true
unfolding is_variable_name
local_name_is_variable x is = ap (λ b. b || is_global_name x) is

pub label_name_is_target : (x : List ℕ) → is_label_name x ≡ true → is_target_name x ≡ true
unfolding is_target_name
label_name_is_target x is = ap (λ b. b || is_end_label_name x) is

pub end_label_name_is_target : (x : List ℕ) → is_end_label_name x ≡ true → is_target_name x ≡ true
unfolding is_target_name
end_label_name_is_target x is = by (is_label_name x)
  where
    by : (b : Bool) → (b || is_end_label_name x) ≡ true
    by true = refl
    by false = is

pub local_name_injective : (m n : ℕ) → m < 2 ^ 64 → n < 2 ^ 64 → local_name m ≡ local_name n → m ≡ n
unfolding local_name
local_name_injective m n small_m small_n same = decimal_text_injective m n small_m small_n (cc same)

pub label_name_injective : (m n : ℕ) → m < 2 ^ 64 → n < 2 ^ 64 → label_name m ≡ label_name n → m ≡ n
unfolding label_name
label_name_injective m n small_m small_n same = decimal_text_injective m n small_m small_n (cc same)
