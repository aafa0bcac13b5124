-- Names in C. A Scheme name is mangled byte by byte: letters and digits stay, and every other byte is `_` and two lower-case hexadecimal digits.
use Rattle.std.specs.Prelude.{ℕ, zero, suc, ◌+◌, ◌-◌, ◌*◌, ◌/◌, ◌%◌, List, [], ◌∷◌, ◌++◌, codes, drop, nat_le, nat_lt, nat_eq, Bool, true, false, ◌&&◌, ◌||◌, if◌then◌else◌, Option, Some, None}
use Rattle.std.specs.List.{list_all, flat_map}
use Rattle.std.specs.Cmp.Lexicographic.{pointwise}
use Rattle.scheme_data.specs.Decimal.{is_digit, decimal_text}
use Rattle.scheme_data.specs.Symbols.{is_symbol}

abbrev pub is_letter : ℕ → Bool
is_letter b = (nat_le 65 b && nat_le b 90) || (nat_le 97 b && nat_le b 122)

abbrev pub is_alphanumeric : ℕ → Bool
is_alphanumeric b = is_digit b || is_letter b

abbrev pub is_hex : ℕ → Bool
is_hex b = is_digit b || (nat_le 97 b && nat_le b 102)

abbrev pub hex_digit : ℕ → ℕ
hex_digit n = if nat_lt n 10 then 48 + n else 87 + n

abbrev pub mangled_byte : ℕ → List ℕ
mangled_byte b = if is_alphanumeric b then b ∷ [] else 95 ∷ hex_digit (b / 16) ∷ hex_digit (b % 16) ∷ []

abbrev pub mangled : List ℕ → List ℕ
mangled name = flat_map mangled_byte name

abbrev pub are_bytes : List ℕ → Bool
are_bytes name = list_all (λ b. nat_lt b 256) name

-- function N of module M is `f_M__N`
unfoldable pub function_name : List ℕ → List ℕ → List ℕ
function_name m n = codes "f_" ++ mangled m ++ codes "__" ++ mangled n

unfoldable pub maker_name : List ℕ → List ℕ
maker_name m = codes "c_" ++ mangled m

unfoldable pub initializer_name : List ℕ → List ℕ
initializer_name m = codes "i_" ++ mangled m

-- Back from a spelling --------------------------------------------------------------------

abbrev pub hex_value : ℕ → ℕ
hex_value d = if is_digit d then d - 48 else d - 87

-- the byte that is spelled at the front, with how many bytes spell it
pub record Unmangled : Type 0 where
  pub byte : ℕ
  pub size : ℕ

-- no letter or digit is spelled by hexadecimal digits
abbrev pub coded : ℕ → Option Unmangled
coded b = if is_alphanumeric b then None else Some (record { byte = b; size = 3 })

abbrev pub coded_at : List ℕ → Option Unmangled
coded_at (h ∷ l ∷ rest) = if is_hex h && is_hex l then coded (16 * hex_value h + hex_value l) else None
coded_at _ = None

abbrev pub unmangled_at : ℕ → List ℕ → Option Unmangled
unmangled_at b bs = if is_alphanumeric b then Some (record { byte = b; size = 1 }) else (if nat_eq b 95 then coded_at bs else None)

abbrev pub onto_name : ℕ → Option (List ℕ) → Option (List ℕ)
onto_name b None = None
onto_name b (Some name) = Some (b ∷ name)

abbrev pub unmangled_then : Option Unmangled → (ℕ → Option (List ℕ)) → Option (List ℕ)
unmangled_then None rest = None
unmangled_then (Some u) rest = onto_name u.byte (rest (u.size - 1))

-- bytes to skip belong to what was spelled before
abbrev pub unmangled_from : ℕ → List ℕ → Option (List ℕ)
unmangled_from skip [] = Some []
unmangled_from (suc skip) (b ∷ bs) = unmangled_from skip bs
unmangled_from zero (b ∷ bs) = unmangled_then (unmangled_at b bs) (λ skip. unmangled_from skip bs)

-- the name that is mangled so; none where the word is no mangling
unfoldable pub unmangled : List ℕ → Option (List ℕ)
unmangled word = unmangled_from 0 word

abbrev pub is_some_symbol : Option (List ℕ) → Bool
is_some_symbol None = false
is_some_symbol (Some name) = is_symbol name

-- the mangling of a symbol
abbrev pub is_mangled_symbol : List ℕ → Bool
is_mangled_symbol word = is_some_symbol (unmangled word)

-- Kinds of names --------------------------------------------------------------------------

-- a number without leading zeros
abbrev pub is_numeral : List ℕ → Bool
is_numeral [] = false
is_numeral (d ∷ []) = is_digit d
is_numeral (d ∷ e ∷ ds) = (nat_lt 48 d && nat_le d 57) && (is_digit e && list_all is_digit ds)

-- an inner lambda has a number in place of a name
abbrev pub is_symbol_or_number : List ℕ → Bool
is_symbol_or_number word = is_mangled_symbol word || is_numeral word

-- a word on both sides of its first `__`
pub record Cut : Type 0 where
  pub before : List ℕ
  pub behind : List ℕ

abbrev pub before_cut : ℕ → Option Cut → Option Cut
before_cut b None = None
before_cut b (Some c) = Some (record { before = b ∷ c.before; behind = c.behind })

abbrev pub begins_with : ℕ → List ℕ → Bool
begins_with b [] = false
begins_with b (c ∷ cs) = nat_eq b c

abbrev pub begins_cut : List ℕ → Bool
begins_cut [] = false
begins_cut (b ∷ bs) = nat_eq b 95 && begins_with 95 bs

abbrev pub cut : List ℕ → Option Cut
cut [] = None
cut (b ∷ bs) = if begins_cut (b ∷ bs) then Some (record { before = []; behind = drop 1 bs }) else before_cut b (cut bs)

abbrev pub is_cut : (List ℕ → Bool) → Option Cut → Bool
is_cut is_name None = false
is_cut is_name (Some c) = is_mangled_symbol c.before && is_name c.behind

-- a mangled module, `__`, and a name of a kind
abbrev pub is_of_module : (List ℕ → Bool) → List ℕ → Bool
is_of_module is_name word = is_cut is_name (cut word)

-- a letter, `_`, and what is of a kind
abbrev pub is_prefixed : ℕ → (List ℕ → Bool) → List ℕ → Bool
is_prefixed letter is_rest (a ∷ b ∷ rest) = nat_eq a letter && (nat_eq b 95 && is_rest rest)
is_prefixed letter is_rest _ = false

-- function N of module M is `f_M__N`
unfoldable pub is_module_function : List ℕ → Bool
is_module_function word = is_prefixed 102 (is_of_module is_symbol_or_number) word

-- its entry is `e_M__N`
unfoldable pub is_entry_name : List ℕ → Bool
is_entry_name word = is_prefixed 101 (is_of_module is_symbol_or_number) word

-- the maker of module M is `c_M`
unfoldable pub is_maker_name : List ℕ → Bool
is_maker_name word = is_prefixed 99 is_mangled_symbol word

-- its initialisation is `i_M`
unfoldable pub is_initializer_name : List ℕ → Bool
is_initializer_name word = is_prefixed 105 is_mangled_symbol word

abbrev pub is_main : List ℕ → Bool
is_main word = pointwise nat_eq word (codes "main")

-- a name that a function may have
unfoldable pub is_function_name : List ℕ → Bool
is_function_name word = is_module_function word || (is_entry_name word || (is_maker_name word || (is_initializer_name word || is_main word)))

-- a variable `v_M__N`, whether it is set `u_M__N`, the closure of a function `p_M__N`, a quoted datum `q_M__K`
unfoldable pub is_global_name : List ℕ → Bool
is_global_name word =
    is_prefixed 118 (is_of_module is_mangled_symbol) word || (is_prefixed 117 (is_of_module is_mangled_symbol) word
    || (is_prefixed 112 (is_of_module is_mangled_symbol) word || is_prefixed 113 (is_of_module is_numeral) word))

-- the symbol N is `s_N`
unfoldable pub is_symbol_name : List ℕ → Bool
is_symbol_name word = is_prefixed 115 is_mangled_symbol word

-- a letter and a number
abbrev pub is_numbered : ℕ → List ℕ → Bool
is_numbered letter [] = false
is_numbered letter (b ∷ bs) = nat_eq b letter && is_numeral bs

-- a local is `x` and a number
unfoldable pub is_local_name : List ℕ → Bool
is_local_name word = is_numbered 120 word

-- a label of a loop is `L` and a number
unfoldable pub is_label_name : List ℕ → Bool
is_label_name word = is_numbered 76 word

-- a label behind a block is `E` and a number
unfoldable pub is_end_label_name : List ℕ → Bool
is_end_label_name word = is_numbered 69 word

-- what may be read and set
unfoldable pub is_variable_name : List ℕ → Bool
is_variable_name word = is_local_name word || is_global_name word

-- where a `goto` may lead
unfoldable pub is_target_name : List ℕ → Bool
is_target_name word = is_label_name word || is_end_label_name word

unfoldable pub local_name : ℕ → List ℕ
local_name n = 120 ∷ decimal_text n

unfoldable pub label_name : ℕ → List ℕ
label_name n = 76 ∷ decimal_text n

-- Kinds of functions, by how their names begin ---------------------------------------------

abbrev pub anything : List ℕ → Bool
anything word = true

abbrev pub is_maker : List ℕ → Bool
is_maker word = is_prefixed 99 anything word

abbrev pub is_initializer : List ℕ → Bool
is_initializer word = is_prefixed 105 anything word

abbrev pub is_entry : List ℕ → Bool
is_entry word = is_prefixed 101 anything word
