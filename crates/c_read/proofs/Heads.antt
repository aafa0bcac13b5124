-- Names of different kinds begin with different letters.
use Rattle.std.proofs.Common.{◌≡◌, ℕ, ◌<◌, List, [], ◌∷◌, Bool, true, false, ◌&&◌, ◌||◌, if◌then◌else◌, nat_eq, codes, refl, sym, ap, ◌∙◌, arith}
use Rattle.std.proofs.lemmas.Bool.{and_parts, eqb-true, ne_eqb, lt-ltb, or_from}
use Rattle.std.proofs.lemmas.Bool.Decides.{nat_tests}
use Rattle.std.specs.Cmp.Lexicographic.{same_text}
use Rattle.c_tree.specs.Names.{
  is_numeral,
  is_numbered,
  is_prefixed,
  is_of_module,
  is_mangled_symbol,
  is_symbol_or_number,
  is_module_function,
  is_entry_name,
  is_maker_name,
  is_initializer_name,
  is_main,
  is_function_name,
  is_global_name,
  is_symbol_name,
  is_local_name,
  is_label_name,
  is_end_label_name,
  is_variable_name,
}
use Rattle.c_words.specs.Kinds.{begins_low}

abbrev pub head : List ℕ → ℕ
head [] = 0
head (b ∷ bs) = b

abbrev is_global_head : ℕ → Bool
is_global_head b = nat_eq b 118 || (nat_eq b 117 || (nat_eq b 112 || nat_eq b 113))

abbrev is_function_head : ℕ → Bool
is_function_head b = nat_eq b 102 || (nat_eq b 101 || (nat_eq b 99 || (nat_eq b 105 || nat_eq b 109)))

-- a number for each kind of name, by the first byte
unfoldable pub group : ℕ → ℕ
group b =
    if nat_eq b 120 then 1
    else (if nat_eq b 76 then 2
    else (if nat_eq b 69 then 3
    else (if nat_eq b 115 then 4
    else (if is_global_head b then 5
    else (if is_function_head b then 6 else 0)))))

abbrev pub group_of : List ℕ → ℕ
group_of word = group (head word)

numbered_head : (letter : ℕ) (word : List ℕ) → is_numbered letter word ≡ true → head word ≡ letter
numbered_head letter [] e = absurd (cc)
numbered_head letter (b ∷ bs) e = eqb-true b letter (and_parts (nat_eq b letter) (is_numeral bs) e).0

prefixed_head : (letter : ℕ) (is_rest : List ℕ → Bool) (word : List ℕ) → is_prefixed letter is_rest word ≡ true → head word ≡ letter
prefixed_head letter is_rest [] e = absurd (cc)
prefixed_head letter is_rest (a ∷ []) e = absurd (cc)
prefixed_head letter is_rest (a ∷ b ∷ rest) e = eqb-true a letter (and_parts (nat_eq a letter) (nat_eq b 95 && is_rest rest) e).0

in_group : (word : List ℕ) (letter n : ℕ) → head word ≡ letter → group letter ≡ n → group_of word ≡ n
in_group word letter n e g = ap group e ∙ g

either : (P : Type 0) (a b : Bool) → (a || b) ≡ true → (a ≡ true → P) → (b ≡ true → P) → P
either P true b e left right = left refl
either P false b e left right = right e

pub local_group : (word : List ℕ) → is_local_name word ≡ true → group_of word ≡ 1
unfolding is_local_name group
local_group word e = in_group word 120 1 (numbered_head 120 word e) refl

pub label_group : (word : List ℕ) → is_label_name word ≡ true → group_of word ≡ 2
unfolding is_label_name group
label_group word e = in_group word 76 2 (numbered_head 76 word e) refl

pub end_label_group : (word : List ℕ) → is_end_label_name word ≡ true → group_of word ≡ 3
unfolding is_end_label_name group
end_label_group word e = in_group word 69 3 (numbered_head 69 word e) refl

pub symbol_group : (word : List ℕ) → is_symbol_name word ≡ true → group_of word ≡ 4
unfolding is_symbol_name group
symbol_group word e = in_group word 115 4 (prefixed_head 115 is_mangled_symbol word e) refl

pub global_group : (word : List ℕ) → is_global_name word ≡ true → group_of word ≡ 5
unfolding is_global_name group
global_group word e =
    let of : (letter : ℕ) (is_rest : List ℕ → Bool) → group letter ≡ 5 → is_prefixed letter is_rest word ≡ true → group_of word ≡ 5 =
    λ letter is_rest g h. in_group word letter 5 (prefixed_head letter is_rest word h) g in
    let v = is_prefixed 118 (is_of_module is_mangled_symbol) word in
    let u = is_prefixed 117 (is_of_module is_mangled_symbol) word in
    let p = is_prefixed 112 (is_of_module is_mangled_symbol) word in
    let q = is_prefixed 113 (is_of_module is_numeral) word in
    either (group_of word ≡ 5) v (u || (p || q)) e (of 118 (is_of_module is_mangled_symbol) refl) (λ e.
    either (group_of word ≡ 5) u (p || q) e (of 117 (is_of_module is_mangled_symbol) refl) (λ e.
    either (group_of word ≡ 5) p q e (of 112 (is_of_module is_mangled_symbol) refl) (of 113 (is_of_module is_numeral) refl)))

pub entry_group : (word : List ℕ) → is_entry_name word ≡ true → group_of word ≡ 6
unfolding is_entry_name group
entry_group word e = in_group word 101 6 (prefixed_head 101 (is_of_module is_symbol_or_number) word e) refl

module_function_group : (word : List ℕ) → is_module_function word ≡ true → group_of word ≡ 6
unfolding is_module_function group
module_function_group word e = in_group word 102 6 (prefixed_head 102 (is_of_module is_symbol_or_number) word e) refl

maker_group : (word : List ℕ) → is_maker_name word ≡ true → group_of word ≡ 6
unfolding is_maker_name group
maker_group word e = in_group word 99 6 (prefixed_head 99 is_mangled_symbol word e) refl

initializer_group : (word : List ℕ) → is_initializer_name word ≡ true → group_of word ≡ 6
unfolding is_initializer_name group
initializer_group word e = in_group word 105 6 (prefixed_head 105 is_mangled_symbol word e) refl

main_group : (word : List ℕ) → is_main word ≡ true → group_of word ≡ 6
unfolding group
main_group word e = ap group_of (same_text word (codes "main") (sym e))

pub function_group : (word : List ℕ) → is_function_name word ≡ true → group_of word ≡ 6
unfolding is_function_name
function_group word e =
    let g = group_of word ≡ 6 in
    let f = is_module_function word in
    let n = is_entry_name word in
    let m = is_maker_name word in
    let i = is_initializer_name word in
    either g f (n || (m || (i || is_main word))) e (module_function_group word) (λ e.
    either g n (m || (i || is_main word)) e (entry_group word) (λ e.
    either g m (i || is_main word) e (maker_group word) (λ e.
    either g i (is_main word) e (initializer_group word) (main_group word))))

-- a word that begins before the letters
unfoldable pub Low : List ℕ → Type 0
Low [] = ⊥
Low (b ∷ bs) = b < 65

pub low_begins : (word : List ℕ) → Low word → begins_low word ≡ true
unfolding Low
low_begins [] l = absurd l
low_begins (b ∷ bs) l = lt-ltb b 65 l

apart : (b n : ℕ) → b < 65 → 65 < n → nat_eq b n ≡ false
apart b n l m = ne_eqb b n (λ e. omega arith)

pub low_group : (word : List ℕ) → Low word → group_of word ≡ 0
unfolding Low group
low_group [] l = absurd l
low_group (b ∷ bs) l =
    let a : (n : ℕ) → 65 < n → nat_eq b n ≡ false = λ n. apart b n l in
    rw (a 120 (omega arith), a 76 (omega arith), a 69 (omega arith), a 115 (omega arith), a 118 (omega arith), a 117 (omega arith), a 112 (omega arith), a 113 (omega arith), a 102 (omega arith), a 101 (omega arith), a 99 (omega arith), a 105 (omega arith), a 109 (omega arith)) refl

-- What a word isn't

excluded : (f : List ℕ → Bool) (n : ℕ) → ((word : List ℕ) → f word ≡ true → group_of word ≡ n)
    → (word : List ℕ) (m : ℕ) → group_of word ≡ m → nat_eq m n ≡ false → f word ≡ false
excluded f n is word m g d = go (f word) refl
  where
    go : (b : Bool) → f word ≡ b → b ≡ false
    go true e =
        let same : nat_eq m n ≡ nat_eq m m = ap (nat_eq m) (sym (is word e) ∙ g) in
        let yes : nat_eq m m ≡ true = grind (arith, nat_tests) in
        absurd (cc)
    go false e = refl

pub no_local : (word : List ℕ) (m : ℕ) → group_of word ≡ m → nat_eq m 1 ≡ false → is_local_name word ≡ false
no_local word m g d = excluded is_local_name 1 local_group word m g d

pub no_label : (word : List ℕ) (m : ℕ) → group_of word ≡ m → nat_eq m 2 ≡ false → is_label_name word ≡ false
no_label word m g d = excluded is_label_name 2 label_group word m g d

pub no_end_label : (word : List ℕ) (m : ℕ) → group_of word ≡ m → nat_eq m 3 ≡ false → is_end_label_name word ≡ false
no_end_label word m g d = excluded is_end_label_name 3 end_label_group word m g d

pub no_symbol : (word : List ℕ) (m : ℕ) → group_of word ≡ m → nat_eq m 4 ≡ false → is_symbol_name word ≡ false
no_symbol word m g d = excluded is_symbol_name 4 symbol_group word m g d

pub no_global : (word : List ℕ) (m : ℕ) → group_of word ≡ m → nat_eq m 5 ≡ false → is_global_name word ≡ false
no_global word m g d = excluded is_global_name 5 global_group word m g d

pub no_entry : (word : List ℕ) (m : ℕ) → group_of word ≡ m → nat_eq m 6 ≡ false → is_entry_name word ≡ false
no_entry word m g d = excluded is_entry_name 6 entry_group word m g d

pub no_function : (word : List ℕ) (m : ℕ) → group_of word ≡ m → nat_eq m 6 ≡ false → is_function_name word ≡ false
no_function word m g d = excluded is_function_name 6 function_group word m g d

pub no_variable : (word : List ℕ) (m : ℕ) → group_of word ≡ m → nat_eq m 1 ≡ false → nat_eq m 5 ≡ false → is_variable_name word ≡ false
unfolding is_variable_name
no_variable word m g d e = or_from (is_local_name word) (is_global_name word) (no_local word m g d) (no_global word m g e)
