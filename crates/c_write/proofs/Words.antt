-- Names, numbers and operations are words.
use Rattle.std.proofs.Common.{◌≡◌, ℕ, ◌<◌, ◌/◌, ◌%◌, List, [], ◌∷◌, ◌++◌, drop, Option, Some, None, refl, sym, ap, ◌∙◌, subst, ℤ, pos, negsuc, arith}
use Rattle.std.specs.Prelude.{Bool, true, false, if◌then◌else◌, ◌&&◌, ◌||◌, nat_eq, nat_le, nat_lt, codes, IsTrue}
use Rattle.std.specs.List.{list_all}
use Rattle.std.specs.Cmp.Lexicographic.{same_text}
use Rattle.std.proofs.lemmas.Bool.{and_parts, and_from}
use Rattle.std.proofs.lemmas.Bool.Decides.{nat_tests}
use Rattle.scheme_data.specs.Decimal.{is_digit, number_text}
use Rattle.scheme_data.specs.Fixnum.{IsFixnum}
use Rattle.scheme_data.specs.Symbols.{is_symbol_byte}
use Rattle.scheme_data.proofs.NumberTexts.{IsNumeralText, IsSignedText, number_text-IsSignedText, mag_fixnum}
use Rattle.c_tree.specs.declared.op.Op.{Op}
use Rattle.c_tree.specs.Names.{is_alphanumeric, hex_digit, mangled_byte, mangled, is_mangled_symbol, is_numeral, is_symbol_or_number, Cut, before_cut, begins_cut, cut, is_cut, is_of_module, is_prefixed, is_numbered, is_module_function, is_entry_name, is_maker_name, is_initializer_name, is_main, is_function_name, is_global_name, is_symbol_name, is_local_name, is_label_name, is_end_label_name, is_variable_name, is_target_name}
use Rattle.c_tree.specs.Operations.{op_text}
use Rattle.c_tree.specs.Lexical.{is_word_byte}
use Rattle.c_tree.proofs.OpNames.{every_operation}
use Rattle.c_tree.proofs.Unmangled.{mangles}
use Rattle.c_tree.specs.declared.tree.CTy.{CTy}
use Rattle.c_tree.specs.declared.tree.CTy.TheVariants.{Obj, Long, Char, Int}
use Rattle.c_tree.specs.Spelling.{type_text}
use Rattle.c_write.specs.Adds.{is_run, is_word}

or_cases : (a b : Bool) (P : Type 0) → (a ≡ true → P) → (b ≡ true → P) → (a || b) ≡ true → P
or_cases true b P one other h = one refl
or_cases false b P one other h = other h

letter_byte : (b letter : ℕ) → is_word_byte letter ≡ true → nat_eq b letter ≡ true → is_word_byte b ≡ true
letter_byte b letter may e = let same : b ≡ letter = grind (arith, nat_tests) in ap is_word_byte same ∙ may

-- a run is a word
run_word_by : (t u : Bool) → t ≡ true → (t || u) ≡ true
run_word_by t u h = rw h refl

run_word : (bs : List ℕ) → is_run bs ≡ true → is_word bs ≡ true
run_word [] h = h
run_word (b ∷ bs) h = run_word_by (is_run (b ∷ bs)) (nat_eq b 45 && is_run bs) h

-- Numbers -----------------------------------------------------------------------------------

digit_word_byte : (b : ℕ) → is_digit b ≡ true → is_word_byte b ≡ true
digit_word_byte b h = grind (arith, nat_tests)

digits_word_bytes : (bs : List ℕ) → list_all is_digit bs ≡ true → list_all is_word_byte bs ≡ true
digits_word_bytes [] h = refl
digits_word_bytes (b ∷ bs) h =
    let parts = and_parts (is_digit b) (list_all is_digit bs) h in
    and_from (is_word_byte b) (list_all is_word_byte bs) (digit_word_byte b parts.0) (digits_word_bytes bs parts.1)

numeral_run : (text : List ℕ) → IsNumeralText text → is_run text ≡ true
numeral_run text t =
    rw t.parts (and_from (is_word_byte t.first) (list_all is_word_byte t.others) (digit_word_byte t.first t.first_is_digit) (digits_word_bytes t.others t.others_are_digits))

signed_word : (z : ℤ) (text : List ℕ) → IsSignedText z text → is_word text ≡ true
signed_word (pos n) text t = run_word text (numeral_run text t)
signed_word (negsuc n) text (digits, is_signed, numeral) = rw is_signed (numeral_run digits numeral)

pub number_word : (z : ℤ) → IsFixnum z → IsTrue (is_word (number_text z))
number_word z fits = signed_word z (number_text z) (number_text-IsSignedText z (omega (arith, mag_fixnum z fits)))

numeral_bytes : (bs : List ℕ) → is_numeral bs ≡ true → list_all is_word_byte bs ≡ true
numeral_bytes [] h = refl
numeral_bytes (b ∷ []) h = rw (digit_word_byte b h) refl
numeral_bytes (b ∷ c ∷ bs) h =
    let parts = and_parts (nat_lt 48 b && nat_le b 57) (is_digit c && list_all is_digit bs) h in
    let first : is_word_byte b ≡ true = (let low = parts.0 in grind (arith, nat_tests)) in
    and_from (is_word_byte b) (list_all is_word_byte (c ∷ bs)) first (digits_word_bytes (c ∷ bs) parts.1)

-- a letter and a number
numbered_word : (letter : ℕ) → is_word_byte letter ≡ true → (name : List ℕ) → is_numbered letter name ≡ true → is_word name ≡ true
numbered_word letter may [] h = absurd (cc)
numbered_word letter may (b ∷ bs) h =
    let parts = and_parts (nat_eq b letter) (is_numeral bs) h in
    run_word (b ∷ bs) (and_from (is_word_byte b) (list_all is_word_byte bs) (letter_byte b letter may parts.0) (numeral_bytes bs parts.1))

pub local_word : (name : List ℕ) → IsTrue (is_local_name name) → IsTrue (is_word name)
unfolding is_local_name
local_word name h = numbered_word 120 refl name h

pub label_word : (name : List ℕ) → IsTrue (is_label_name name) → IsTrue (is_word name)
unfolding is_label_name
label_word name h = numbered_word 76 refl name h

pub end_label_word : (name : List ℕ) → IsTrue (is_end_label_name name) → IsTrue (is_word name)
unfolding is_end_label_name
end_label_word name h = numbered_word 69 refl name h

pub target_word : (name : List ℕ) → IsTrue (is_target_name name) → IsTrue (is_word name)
unfolding is_target_name
target_word name h = or_cases (is_label_name name) (is_end_label_name name) (IsTrue (is_word name)) (label_word name) (end_label_word name) h

-- Mangled names -----------------------------------------------------------------------------

alphanumeric_byte : (b : ℕ) → is_alphanumeric b ≡ true → is_word_byte b ≡ true
alphanumeric_byte b h = grind (arith, nat_tests)

hex_byte : (d : ℕ) → d < 16 → is_word_byte (hex_digit d) ≡ true
hex_byte d small = grind (arith, nat_tests)

symbol_byte_small : (b : ℕ) → is_symbol_byte b ≡ true → b < 256
symbol_byte_small b h = grind (arith, nat_tests)

all_both : (xs ys : List ℕ) → list_all is_word_byte xs ≡ true → list_all is_word_byte ys ≡ true → list_all is_word_byte (xs ++ ys) ≡ true
all_both [] ys h k = k
all_both (x ∷ xs) ys h k =
    let parts = and_parts (is_word_byte x) (list_all is_word_byte xs) h in
    and_from (is_word_byte x) (list_all is_word_byte (xs ++ ys)) parts.0 (all_both xs ys parts.1 k)

spelled_bytes : (b : ℕ) → b < 256 → (x : Bool) → is_alphanumeric b ≡ x → list_all is_word_byte (if x then b ∷ [] else 95 ∷ hex_digit (b / 16) ∷ hex_digit (b % 16) ∷ []) ≡ true
spelled_bytes b small true e = rw (alphanumeric_byte b e) refl
spelled_bytes b small false e = rw (hex_byte (b / 16) (omega arith), hex_byte (b % 16) (omega arith)) refl

mangled_bytes : (name : List ℕ) → list_all is_symbol_byte name ≡ true → list_all is_word_byte (mangled name) ≡ true
mangled_bytes [] h = refl
mangled_bytes (b ∷ bs) h =
    let parts = and_parts (is_symbol_byte b) (list_all is_symbol_byte bs) h in
    all_both (mangled_byte b) (mangled bs) (spelled_bytes b (symbol_byte_small b parts.0) (is_alphanumeric b) refl) (mangled_bytes bs parts.1)

-- a test that only words pass
abbrev AreWords : (List ℕ → Bool) → Type 0
AreWords test = (word : List ℕ) → test word ≡ true → list_all is_word_byte word ≡ true

symbol_bytes : AreWords is_mangled_symbol
symbol_bytes word h = let m = mangles word h in ap (list_all is_word_byte) m.is ∙ mangled_bytes m.name m.symbol.bytes

symbol_or_number_bytes : AreWords is_symbol_or_number
symbol_or_number_bytes word h =
    or_cases (is_mangled_symbol word) (is_numeral word) (list_all is_word_byte word ≡ true) (symbol_bytes word) (numeral_bytes word) h

-- both sides of the first `__`
cut_is : (word : List ℕ) (c : Cut) → cut word ≡ Some c → word ≡ c.before ++ 95 ∷ 95 ∷ c.behind
cut_is [] c e = absurd (cc)
cut_is (b ∷ bs) c e = by (begins_cut (b ∷ bs)) refl e (λ d q. cut_is bs d q)
  where
    before_is : (o : Option Cut) → cut bs ≡ o → before_cut b o ≡ Some c → ((d : Cut) → cut bs ≡ Some d → bs ≡ d.before ++ 95 ∷ 95 ∷ d.behind) → b ∷ bs ≡ c.before ++ 95 ∷ 95 ∷ c.behind
    before_is None at q later = absurd (cc)
    before_is (Some d) at q later =
        let same : record { before = b ∷ d.before; behind = d.behind } ≡ c = cc in
        ap (λ rest. b ∷ rest) (later d at) ∙ ap (λ (x : Cut). x.before ++ 95 ∷ 95 ∷ x.behind) same

    here : (cs : List ℕ) → begins_cut (b ∷ cs) ≡ true → b ∷ cs ≡ 95 ∷ 95 ∷ drop 1 cs
    here [] h = let parts = and_parts (nat_eq b 95) false h in let bad : false ≡ true = parts.1 in absurd (cc)
    here (d ∷ cs) h =
        let parts = and_parts (nat_eq b 95) (nat_eq 95 d) h in
        (λ i. (let first : b ≡ 95 = (let is_line = parts.0 in grind (arith, nat_tests)) in first) i ∷ (let second : d ≡ 95 = (let is_line = parts.1 in grind (arith, nat_tests)) in second) i ∷ cs)

    by : (t : Bool) → begins_cut (b ∷ bs) ≡ t → (if t then Some (record { before = []; behind = drop 1 bs }) else before_cut b (cut bs)) ≡ Some c
        → ((d : Cut) → cut bs ≡ Some d → bs ≡ d.before ++ 95 ∷ 95 ∷ d.behind) → b ∷ bs ≡ c.before ++ 95 ∷ 95 ∷ c.behind
    by true h q later =
        let same : record { before = []; behind = drop 1 bs } ≡ c = cc in
        here bs h ∙ ap (λ (x : Cut). x.before ++ 95 ∷ 95 ∷ x.behind) same
    by false h q later = before_is (cut bs) refl q later

of_module_bytes : (test : List ℕ → Bool) → AreWords test → AreWords (is_of_module test)
of_module_bytes test words word h = by (cut word) refl h
  where
    by : (o : Option Cut) → cut word ≡ o → is_cut test o ≡ true → list_all is_word_byte word ≡ true
    by None e q = absurd (cc)
    by (Some c) e q =
        let parts = and_parts (is_mangled_symbol c.before) (test c.behind) q in
        ap (list_all is_word_byte) (cut_is word c e) ∙ all_both c.before (95 ∷ 95 ∷ c.behind) (symbol_bytes c.before parts.0) (words c.behind parts.1)

prefixed_word : (letter : ℕ) → is_word_byte letter ≡ true → (test : List ℕ → Bool) → AreWords test → (word : List ℕ) → is_prefixed letter test word ≡ true → is_word word ≡ true
prefixed_word letter may test words [] h = absurd (cc)
prefixed_word letter may test words (a ∷ []) h = absurd (cc)
prefixed_word letter may test words (a ∷ b ∷ rest) h =
    let first = and_parts (nat_eq a letter) (nat_eq b 95 && test rest) h in
    let second = and_parts (nat_eq b 95) (test rest) first.1 in
    run_word (a ∷ b ∷ rest)
    (and_from (is_word_byte a) (is_word_byte b && list_all is_word_byte rest) (letter_byte a letter may first.0)
    (and_from (is_word_byte b) (list_all is_word_byte rest) (letter_byte b 95 refl second.0) (words rest second.1)))

-- Functions ---------------------------------------------------------------------------------

main_word : (word : List ℕ) → is_main word ≡ true → is_word word ≡ true
main_word word h = subst (λ w. is_word w ≡ true) (sym (same_text word (codes "main") (sym h))) refl

module_function_word : (word : List ℕ) → is_module_function word ≡ true → is_word word ≡ true
unfolding is_module_function
module_function_word word h = prefixed_word 102 refl (is_of_module is_symbol_or_number) (of_module_bytes is_symbol_or_number symbol_or_number_bytes) word h

pub entry_word : (word : List ℕ) → IsTrue (is_entry_name word) → IsTrue (is_word word)
unfolding is_entry_name
entry_word word h = prefixed_word 101 refl (is_of_module is_symbol_or_number) (of_module_bytes is_symbol_or_number symbol_or_number_bytes) word h

maker_word : (word : List ℕ) → is_maker_name word ≡ true → is_word word ≡ true
unfolding is_maker_name
maker_word word h = prefixed_word 99 refl is_mangled_symbol symbol_bytes word h

initializer_word : (word : List ℕ) → is_initializer_name word ≡ true → is_word word ≡ true
unfolding is_initializer_name
initializer_word word h = prefixed_word 105 refl is_mangled_symbol symbol_bytes word h

pub function_word : (word : List ℕ) → IsTrue (is_function_name word) → IsTrue (is_word word)
unfolding is_function_name
function_word word h =
    or_cases (is_module_function word) (is_entry_name word || (is_maker_name word || (is_initializer_name word || is_main word))) (IsTrue (is_word word)) (module_function_word word)
    (λ k. or_cases (is_entry_name word) (is_maker_name word || (is_initializer_name word || is_main word)) (IsTrue (is_word word)) (entry_word word)
    (λ l. or_cases (is_maker_name word) (is_initializer_name word || is_main word) (IsTrue (is_word word)) (maker_word word)
    (λ m. or_cases (is_initializer_name word) (is_main word) (IsTrue (is_word word)) (initializer_word word) (main_word word) m) l) k) h

-- Globals and symbols -----------------------------------------------------------------------

pub symbol_word : (word : List ℕ) → IsTrue (is_symbol_name word) → IsTrue (is_word word)
unfolding is_symbol_name
symbol_word word h = prefixed_word 115 refl is_mangled_symbol symbol_bytes word h

of_symbol_word : (letter : ℕ) → is_word_byte letter ≡ true → (word : List ℕ) → is_prefixed letter (is_of_module is_mangled_symbol) word ≡ true → is_word word ≡ true
of_symbol_word letter may word h = prefixed_word letter may (is_of_module is_mangled_symbol) (of_module_bytes is_mangled_symbol symbol_bytes) word h

of_number_word : (letter : ℕ) → is_word_byte letter ≡ true → (word : List ℕ) → is_prefixed letter (is_of_module is_numeral) word ≡ true → is_word word ≡ true
of_number_word letter may word h = prefixed_word letter may (is_of_module is_numeral) (of_module_bytes is_numeral numeral_bytes) word h

pub global_word : (word : List ℕ) → IsTrue (is_global_name word) → IsTrue (is_word word)
unfolding is_global_name
global_word word h =
    or_cases variable (set || (closure || datum)) (IsTrue (is_word word)) (of_symbol_word 118 refl word)
    (λ k. or_cases set (closure || datum) (IsTrue (is_word word)) (of_symbol_word 117 refl word)
    (λ l. or_cases closure datum (IsTrue (is_word word)) (of_symbol_word 112 refl word) (of_number_word 113 refl word) l) k) h
  where
    variable : Bool
    variable = is_prefixed 118 (is_of_module is_mangled_symbol) word

    set : Bool
    set = is_prefixed 117 (is_of_module is_mangled_symbol) word

    closure : Bool
    closure = is_prefixed 112 (is_of_module is_mangled_symbol) word

    datum : Bool
    datum = is_prefixed 113 (is_of_module is_numeral) word

pub variable_word : (word : List ℕ) → IsTrue (is_variable_name word) → IsTrue (is_word word)
unfolding is_variable_name
variable_word word h = or_cases (is_local_name word) (is_global_name word) (IsTrue (is_word word)) (local_word word) (global_word word) h

-- Operations and types ----------------------------------------------------------------------

pub op_word : (op : Op) → IsTrue (is_word (op_text op))
op_word op = every_operation (λ o. is_word (op_text o)) refl op

pub type_word : (t : CTy) → IsTrue (is_word (type_text t))
type_word Obj = refl
type_word Long = refl
type_word Char = refl
type_word Int = refl
