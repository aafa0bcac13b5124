-- What a word is, by its first byte.
use Rattle.std.proofs.Common.{◌≡◌, ℕ, ◌<◌, ◌≤◌, List, [], ◌∷◌, drop, codes, Option, Some, None, Bool, true, false, ◌&&◌, ◌||◌, not, nat_eq, nat_lt, nat_le, if◌then◌else◌, refl, sym, ap, subst, ◌∙◌, arith}
use Rattle.std.proofs.lemmas.Bool.{and_parts, eqb-true, ne_eqb, leb-true, lt-ltb}
use Rattle.std.proofs.lemmas.Bool.Decides.{nat_tests}
use Rattle.std.specs.Cmp.Lexicographic.{same_text}
use Rattle.std.specs.Option.{MatchOption, option_eq}
use Rattle.scheme_data.specs.Decimal.{is_digit}
use Rattle.c_tree.specs.Lexical.{is_word_byte}
use Rattle.c_tree.specs.Names.{
  is_numeral,
  is_numbered,
  is_prefixed,
  is_of_module,
  is_mangled_symbol,
  is_symbol_or_number,
  is_module_function,
  is_entry_name,
  is_maker_name,
  is_initializer_name,
  is_main,
  is_function_name,
  is_global_name,
  is_symbol_name,
  is_local_name,
  is_label_name,
  is_end_label_name,
}
use Rattle.c_tree.specs.Operations.{op_named}
use Rattle.c_words.specs.Words.{number_of}
use Rattle.c_words.specs.Kinds.{begins_low, by_number, fixed_kind, if_named, prefixed_kind, word_kind}
use Rattle.c_words.specs.Letters.{begins_names}
use Rattle.c_words.specs.declared.kind.WordKind.{WordKind}
use Rattle.c_words.specs.declared.kind.WordKind.TheVariants as kind

-- The tests of a word -----------------------------------------------------------------------

abbrev is_global : List ℕ → Bool
is_global word =
    is_prefixed 118 (is_of_module is_mangled_symbol) word || (is_prefixed 117 (is_of_module is_mangled_symbol) word
    || (is_prefixed 112 (is_of_module is_mangled_symbol) word || is_prefixed 113 (is_of_module is_numeral) word))

abbrev is_function : List ℕ → Bool
is_function word =
    is_prefixed 102 (is_of_module is_symbol_or_number) word || (is_prefixed 101 (is_of_module is_symbol_or_number) word
    || (is_prefixed 99 is_mangled_symbol word || (is_prefixed 105 is_mangled_symbol word || is_main word)))

-- what is no name
abbrev unnamed : List ℕ → WordKind
unnamed word = if begins_low word then by_number (number_of word) else fixed_kind word

abbrev spelled_kind : List ℕ → WordKind
spelled_kind word =
    if is_numbered 120 word then kind.Local
    else (if is_numbered 76 word then kind.Label
    else (if is_numbered 69 word then kind.EndLabel
    else (if is_prefixed 115 is_mangled_symbol word then kind.Symbol
    else (if is_global word then kind.Global
    else (if is_prefixed 101 (is_of_module is_symbol_or_number) word then kind.Entry
    else (if is_function word then kind.Function
    else unnamed word))))))

by_spelling : (word : List ℕ) → word_kind word ≡ spelled_kind word
unfolding word_kind is_local_name is_label_name is_end_label_name is_symbol_name is_global_name is_entry_name is_function_name is_module_function is_maker_name is_initializer_name
by_spelling word = refl

pub nothing_kind : word_kind [] ≡ kind.Other
unfolding fixed_kind op_named
nothing_kind = by_spelling []

-- A letter and a number ---------------------------------------------------------------------

pub local_kind : (rest : List ℕ) → word_kind (120 ∷ rest) ≡ if_named (is_numeral rest) kind.Local
unfolding fixed_kind op_named
local_kind [] = by_spelling (120 ∷ [])
local_kind (b ∷ bs) = by_spelling (120 ∷ b ∷ bs)

pub label_kind : (rest : List ℕ) → word_kind (76 ∷ rest) ≡ if_named (is_numeral rest) kind.Label
unfolding fixed_kind op_named
label_kind [] = by_spelling (76 ∷ [])
label_kind (b ∷ bs) = by_spelling (76 ∷ b ∷ bs)

pub end_label_kind : (rest : List ℕ) → word_kind (69 ∷ rest) ≡ if_named (is_numeral rest) kind.EndLabel
unfolding fixed_kind op_named
end_label_kind [] = by_spelling (69 ∷ [])
end_label_kind (b ∷ bs) = by_spelling (69 ∷ b ∷ bs)

-- A letter and `_` --------------------------------------------------------------------------

either : (P : ℕ → Type 0) (n b : ℕ) (others : Bool) → P n → (others ≡ true → P b) → (nat_eq b n || others) ≡ true → P b
either P n b others here more e = go (nat_eq b n) refl e
  where
    go : (t : Bool) → nat_eq b n ≡ t → (t || others) ≡ true → P b
    go true same e = subst P (sym (eqb-true b n same)) here
    go false same e = more e

-- what holds of each of these letters
each_letter : (P : ℕ → Type 0) → P 115 → P 99 → P 105 → P 118 → P 117 → P 112 → P 113 → P 101 → P 102 → (b : ℕ) → begins_names b ≡ true → P b
each_letter P s c i v u p q e f b =
    either P 115 b _ s (either P 99 b _ c (either P 105 b _ i (either P 118 b _ v (either P 117 b _ u (either P 112 b _ p (either P 113 b _ q (either P 101 b _ e (λ t. subst P (sym (eqb-true b 102 t)) f))))))))

or_false : (b : Bool) → (b || false) ≡ b
or_false true = refl
or_false false = refl

or_entry : (b : Bool) → (if b then kind.Entry else (if b || false then kind.Function else kind.Other)) ≡ if_named b kind.Entry
or_entry true = refl
or_entry false = refl

pub name_kind : (letter : ℕ) (rest : List ℕ) → begins_names letter ≡ true → word_kind (letter ∷ 95 ∷ rest) ≡ prefixed_kind letter rest
unfolding fixed_kind op_named
name_kind letter rest =
    each_letter (λ letter. word_kind (letter ∷ 95 ∷ rest) ≡ prefixed_kind letter rest)
    (by_spelling (115 ∷ 95 ∷ rest))
    (by_spelling (99 ∷ 95 ∷ rest) ∙ ap (λ b. if_named b kind.Function) (or_false (is_mangled_symbol rest)))
    (by_spelling (105 ∷ 95 ∷ rest) ∙ ap (λ b. if_named b kind.Function) (or_false (is_mangled_symbol rest)))
    (by_spelling (118 ∷ 95 ∷ rest) ∙ ap (λ b. if_named b kind.Global) (or_false (is_of_module is_mangled_symbol rest)))
    (by_spelling (117 ∷ 95 ∷ rest) ∙ ap (λ b. if_named b kind.Global) (or_false (is_of_module is_mangled_symbol rest)))
    (by_spelling (112 ∷ 95 ∷ rest) ∙ ap (λ b. if_named b kind.Global) (or_false (is_of_module is_mangled_symbol rest)))
    (by_spelling (113 ∷ 95 ∷ rest))
    (by_spelling (101 ∷ 95 ∷ rest) ∙ or_entry (is_of_module is_symbol_or_number rest))
    (by_spelling (102 ∷ 95 ∷ rest) ∙ ap (λ b. if_named b kind.Function) (or_false (is_of_module is_symbol_or_number rest)))
    letter

-- Words that are no names -------------------------------------------------------------------

record Unnamed (word : List ℕ) : Type 0 where
  local : is_numbered 120 word ≡ false
  label : is_numbered 76 word ≡ false
  end_label : is_numbered 69 word ≡ false
  prefixed : (letter : ℕ) (is_rest : List ℕ → Bool) → begins_names letter ≡ true → is_prefixed letter is_rest word ≡ false
  main : is_main word ≡ false

unnamed_kind : (word : List ℕ) → Unnamed word → word_kind word ≡ unnamed word
unnamed_kind word n =
    let symbol = n.prefixed 115 is_mangled_symbol refl in
    let v = n.prefixed 118 (is_of_module is_mangled_symbol) refl in
    let u = n.prefixed 117 (is_of_module is_mangled_symbol) refl in
    let p = n.prefixed 112 (is_of_module is_mangled_symbol) refl in
    let q = n.prefixed 113 (is_of_module is_numeral) refl in
    let entry = n.prefixed 101 (is_of_module is_symbol_or_number) refl in
    let f = n.prefixed 102 (is_of_module is_symbol_or_number) refl in
    let c = n.prefixed 99 is_mangled_symbol refl in
    let i = n.prefixed 105 is_mangled_symbol refl in
    by_spelling word ∙ rw (n.local, n.label, n.end_label, symbol, v, u, p, q, entry, f, c, i, n.main) refl

first_is : (letter b : ℕ) (is_rest : List ℕ → Bool) (rest : List ℕ) → nat_eq b letter ≡ false → is_prefixed letter is_rest (b ∷ rest) ≡ false
first_is letter b is_rest [] e = refl
first_is letter b is_rest (c ∷ cs) e = ap (λ t. t && (nat_eq c 95 && is_rest cs)) e

second_is : (letter a b : ℕ) (is_rest : List ℕ → Bool) (rest : List ℕ) → nat_eq b 95 ≡ false → is_prefixed letter is_rest (a ∷ b ∷ rest) ≡ false
second_is letter a b is_rest rest e = ap (λ t. nat_eq a letter && (t && is_rest rest)) e ∙ and_false (nat_eq a letter)
  where
    and_false : (t : Bool) → (t && false) ≡ false
    and_false true = refl
    and_false false = refl

-- a letter of names, and another byte
apart : (b n : ℕ) (names : Bool) → begins_names b ≡ names → begins_names n ≡ not names → nat_eq b n ≡ false
apart b n names e f = ne_eqb b n (λ same. differ names (sym e ∙ ap begins_names same ∙ f))
  where
    differ : (t : Bool) → t ≡ not t → ⊥
    differ true e = absurd (cc)
    differ false e = absurd (cc)

main_first : (b : ℕ) (rest : List ℕ) → nat_eq b 109 ≡ false → is_main (b ∷ rest) ≡ false
main_first b rest e = rw e refl

no_name : (b : ℕ) (rest : List ℕ) → nat_eq b 120 ≡ false → nat_eq b 76 ≡ false → nat_eq b 69 ≡ false → begins_names b ≡ false → is_main (b ∷ rest) ≡ false → Unnamed (b ∷ rest)
no_name b rest x l e n m = record {
  local = ap (λ t. t && is_numeral rest) x;
  label = ap (λ t. t && is_numeral rest) l;
  end_label = ap (λ t. t && is_numeral rest) e;
  prefixed = λ letter is_rest y. first_is letter b is_rest rest (apart b letter false n y);
  main = m;
}

-- before the letters
low_kind : (b : ℕ) (rest : List ℕ) → b < 65 → word_kind (b ∷ rest) ≡ by_number (number_of (b ∷ rest))
low_kind b rest l =
    let other : (n : ℕ) → 65 < n → nat_eq b n ≡ false = λ n h. ne_eqb b n (λ e. omega arith) in
    let names : begins_names b ≡ false =
    rw (other 115 (omega arith), other 99 (omega arith), other 105 (omega arith), other 118 (omega arith), other 117 (omega arith), other 112 (omega arith), other 113 (omega arith), other 101 (omega arith), other 102 (omega arith)) refl in
    let no = no_name b rest (other 120 (omega arith)) (other 76 (omega arith)) (other 69 (omega arith)) names (main_first b rest (other 109 (omega arith))) in
    unnamed_kind (b ∷ rest) no ∙ ap (λ t. if t then by_number (number_of (b ∷ rest)) else fixed_kind (b ∷ rest)) (lt-ltb b 65 l)

pub digit_kind : (b : ℕ) (rest : List ℕ) → is_digit b ≡ true → word_kind (b ∷ rest) ≡ by_number (number_of (b ∷ rest))
digit_kind b rest d =
    let high : b ≤ 57 = leb-true b 57 (and_parts (nat_le 48 b) (nat_le b 57) d).1 in
    low_kind b rest (omega arith)

pub minus_kind : (rest : List ℕ) → word_kind (45 ∷ rest) ≡ by_number (number_of (45 ∷ rest))
minus_kind rest = low_kind 45 rest (omega arith)

bare : (letter : ℕ) (rest : List ℕ) → ((b : ℕ) (bs : List ℕ) → rest ≡ b ∷ bs → nat_eq b 95 ≡ false) → (other : ℕ) (is_rest : List ℕ → Bool) → is_prefixed other is_rest (letter ∷ rest) ≡ false
bare letter [] second other is_rest = refl
bare letter (b ∷ bs) second other is_rest = second_is other letter b is_rest bs (second b bs refl)

-- a letter of names with no `_` behind it
pub bare_kind : (letter : ℕ) (rest : List ℕ) → begins_names letter ≡ true → ((b : ℕ) (bs : List ℕ) → rest ≡ b ∷ bs → nat_eq b 95 ≡ false) → word_kind (letter ∷ rest) ≡ fixed_kind (letter ∷ rest)
bare_kind letter rest y second =
    let other : (n : ℕ) → begins_names n ≡ false → nat_eq letter n ≡ false = λ n f. apart letter n true y f in
    let no : Unnamed (letter ∷ rest) = record {
      local = ap (λ t. t && is_numeral rest) (other 120 refl);
      label = ap (λ t. t && is_numeral rest) (other 76 refl);
      end_label = ap (λ t. t && is_numeral rest) (other 69 refl);
      prefixed = λ n is_rest _. bare letter rest second n is_rest;
      main = main_first letter rest (other 109 refl);
    } in
    let high : nat_lt letter 65 ≡ false = each_letter (λ b. nat_lt b 65 ≡ false) refl refl refl refl refl refl refl refl refl letter y in
    unnamed_kind (letter ∷ rest) no ∙ ap (λ t. if t then by_number (number_of (letter ∷ rest)) else fixed_kind (letter ∷ rest)) high

high_byte : (b : ℕ) → is_word_byte b ≡ true → is_digit b ≡ false → nat_lt b 65 ≡ false
high_byte b w d = grind (arith, nat_tests)

-- any other letter, and `_`; `main` is a word too
pub other_kind : (b : ℕ) (rest : List ℕ) → is_word_byte b ≡ true → is_digit b ≡ false → begins_names b ≡ false → nat_eq b 120 ≡ false → nat_eq b 76 ≡ false → nat_eq b 69 ≡ false → word_kind (b ∷ rest) ≡ fixed_kind (b ∷ rest)
unfolding fixed_kind op_named
other_kind b rest w d n x l e = go (is_main (b ∷ rest)) refl
  where
    go : (t : Bool) → is_main (b ∷ rest) ≡ t → word_kind (b ∷ rest) ≡ fixed_kind (b ∷ rest)
    go true m =
        let same : b ∷ rest ≡ codes "main" = same_text (b ∷ rest) (codes "main") (sym m) in
        ap word_kind same ∙ by_spelling (codes "main") ∙ sym (ap fixed_kind same)
    go false m =
        unnamed_kind (b ∷ rest) (no_name b rest x l e n m)
        ∙ ap (λ t. if t then by_number (number_of (b ∷ rest)) else fixed_kind (b ∷ rest)) (high_byte b w d)

-- In a walk ---------------------------------------------------------------------------------

pub nothing_left : (left : List ℕ) → left ≡ [] → kind.Other ≡ word_kind left
nothing_left left e = sym nothing_kind ∙ ap word_kind (sym e)

pub digit_left : (left : List ℕ) (b : ℕ) → left ≡ b ∷ drop 1 left → is_digit b ≡ true → by_number (number_of left) ≡ word_kind left
digit_left left b e d = ap (λ w. by_number (number_of w)) e ∙ sym (digit_kind b (drop 1 left) d) ∙ ap word_kind (sym e)

pub local_left : (left : List ℕ) (b : ℕ) → left ≡ b ∷ drop 1 left → b ≡ 120 → if_named (is_numeral (drop 1 left)) kind.Local ≡ word_kind left
local_left left b e is = sym (local_kind (drop 1 left)) ∙ ap (λ a. word_kind (a ∷ drop 1 left)) (sym is) ∙ ap word_kind (sym e)

pub label_left : (left : List ℕ) (b : ℕ) → left ≡ b ∷ drop 1 left → b ≡ 76 → if_named (is_numeral (drop 1 left)) kind.Label ≡ word_kind left
label_left left b e is = sym (label_kind (drop 1 left)) ∙ ap (λ a. word_kind (a ∷ drop 1 left)) (sym is) ∙ ap word_kind (sym e)

pub end_label_left : (left : List ℕ) (b : ℕ) → left ≡ b ∷ drop 1 left → b ≡ 69 → if_named (is_numeral (drop 1 left)) kind.EndLabel ≡ word_kind left
end_label_left left b e is = sym (end_label_kind (drop 1 left)) ∙ ap (λ a. word_kind (a ∷ drop 1 left)) (sym is) ∙ ap word_kind (sym e)

pub other_left : (left : List ℕ) (b : ℕ) → left ≡ b ∷ drop 1 left → is_word_byte b ≡ true → is_digit b ≡ false → begins_names b ≡ false
    → nat_eq b 120 ≡ false → nat_eq b 76 ≡ false → nat_eq b 69 ≡ false → fixed_kind (b ∷ drop 1 left) ≡ word_kind left
other_left left b e w d n x l f = sym (other_kind b (drop 1 left) w d n x l f) ∙ ap word_kind (sym e)

-- the byte that is next, tested against `_`
pub underscore : (next : Option ℕ) (left : List ℕ) → MatchOption next (left ≡ []) (λ b. left ≡ b ∷ drop 1 left) → option_eq nat_eq next (Some 95) ≡ true → left ≡ 95 ∷ drop 1 left
underscore None left m e = absurd (cc)
underscore (Some b) left m e = m ∙ ap (λ a. a ∷ drop 1 left) (eqb-true b 95 e)

pub no_underscore : (next : Option ℕ) (left : List ℕ) → MatchOption next (left ≡ []) (λ b. left ≡ b ∷ drop 1 left) → option_eq nat_eq next (Some 95) ≡ false
    → (b : ℕ) (bs : List ℕ) → left ≡ b ∷ bs → nat_eq b 95 ≡ false
no_underscore None left m e b bs h = absurd (cc)
no_underscore (Some c) left m e b bs h = let same : b ≡ c = cc in ap (λ a. nat_eq a 95) same ∙ e
