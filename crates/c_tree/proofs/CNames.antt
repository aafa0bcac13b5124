-- Names in C are names of functions, and keep apart the Scheme names that they are made of.
use Rattle.std.proofs.Common.{◌≡◌, ℕ, ◌<◌, ◌≤◌, List, [], ◌∷◌, ◌++◌, Bool, true, false, codes, nat_eq, refl, sym, ap, ◌∙◌, append_assoc, arith}
use Rattle.std.specs.Prelude.{◌+◌, ◌/◌, ◌%◌, nat_lt, if◌then◌else◌, ◌&&◌, IsTrue}
use Rattle.std.specs.Cmp.Lexicographic.{same_text}
use Rattle.std.proofs.lemmas.Bool.{ltb-true, ltb-false}
use Rattle.scheme_data.specs.Symbols.{IsSymbol}
use Rattle.c_tree.specs.Names.{is_alphanumeric, hex_digit, mangled, function_name, maker_name, initializer_name, is_mangled_symbol, is_symbol_or_number, is_of_module, is_prefixed, anything, is_entry_name, is_maker_name, is_initializer_name, is_function_name, is_maker, is_initializer, is_entry, is_main}
use Rattle.c_tree.proofs.NameShapes.{function_name-is_function_name, maker_name-is_function_name, initializer_name-is_function_name}

-- Digits ------------------------------------------------------------------------------------

hex_same : (a b : ℕ) → hex_digit a ≡ hex_digit b → a ≡ b
hex_same a b e = go (nat_lt a 10) (nat_lt b 10) refl refl e
  where
    go : (x y : Bool) → nat_lt a 10 ≡ x → nat_lt b 10 ≡ y → (if x then 48 + a else 87 + a) ≡ (if y then 48 + b else 87 + b) → a ≡ b
    go true true ea eb q = omega arith
    go false false ea eb q = omega arith
    go true false ea eb q = let small : a < 10 = ltb-true a 10 ea in let large : 10 ≤ b = ltb-false b 10 eb in absurd (omega arith)
    go false true ea eb q = let small : b < 10 = ltb-true b 10 eb in let large : 10 ≤ a = ltb-false a 10 ea in absurd (omega arith)

byte_same : (a b : ℕ) → a / 16 ≡ b / 16 → a % 16 ≡ b % 16 → a ≡ b
byte_same a b high low = omega arith

-- no digit is an underscore
digit_no_underscore : (n : ℕ) → hex_digit n ≡ 95 → ⊥
digit_no_underscore n e = go (nat_lt n 10) refl e
  where
    go : (x : Bool) → nat_lt n 10 ≡ x → (if x then 48 + n else 87 + n) ≡ 95 → ⊥
    go true d q = let small : n < 10 = ltb-true n 10 d in absurd (omega arith)
    go false d q = let large : 10 ≤ n = ltb-false n 10 d in absurd (omega arith)

no_underscore : (b : ℕ) → is_alphanumeric b ≡ true → b ≡ 95 → ⊥
no_underscore b e q = let bad : false ≡ true = sym (ap is_alphanumeric q) ∙ e in absurd (cc)

-- One byte ----------------------------------------------------------------------------------

-- a byte in a mangled text, once it is known whether it is alphanumeric
abbrev spelled : Bool → ℕ → List ℕ
spelled x b = if x then b ∷ [] else 95 ∷ hex_digit (b / 16) ∷ hex_digit (b % 16) ∷ []

heads : (a b : ℕ) (cs ds : List ℕ) (x y : Bool) → is_alphanumeric a ≡ x → is_alphanumeric b ≡ y → spelled x a ++ cs ≡ spelled y b ++ ds → (a ≡ b) × (cs ≡ ds)
heads a b cs ds true true ea eb q = (cc, cc)
heads a b cs ds true false ea eb q = let same : a ≡ 95 = cc in absurd (no_underscore a ea same)
heads a b cs ds false true ea eb q = let same : b ≡ 95 = cc in absurd (no_underscore b eb same)
heads a b cs ds false false ea eb q =
    let high : hex_digit (a / 16) ≡ hex_digit (b / 16) = cc in
    let low : hex_digit (a % 16) ≡ hex_digit (b % 16) = cc in
    (byte_same a b (hex_same (a / 16) (b / 16) high) (hex_same (a % 16) (b % 16) low), cc)

not_empty : (b : ℕ) (ds : List ℕ) (y : Bool) → [] ≡ spelled y b ++ ds → ⊥
not_empty b ds true q = absurd (cc)
not_empty b ds false q = absurd (cc)

-- where a mangled text ends at two underscores, no byte of it stands
no_end : (b : ℕ) (rest ds : List ℕ) (y : Bool) → is_alphanumeric b ≡ y → 95 ∷ 95 ∷ rest ≡ spelled y b ++ ds → ⊥
no_end b rest ds true e q = let same : b ≡ 95 = cc in no_underscore b e same
no_end b rest ds false e q = let digit : hex_digit (b / 16) ≡ 95 = cc in digit_no_underscore (b / 16) digit

-- Texts -------------------------------------------------------------------------------------

pub mangled_same : (m k : List ℕ) → mangled m ≡ mangled k → m ≡ k
mangled_same [] [] e = refl
mangled_same [] (b ∷ ds) e = absurd (not_empty b (mangled ds) (is_alphanumeric b) e)
mangled_same (a ∷ cs) [] e = absurd (not_empty a (mangled cs) (is_alphanumeric a) (sym e))
mangled_same (a ∷ cs) (b ∷ ds) e =
    let h = heads a b (mangled cs) (mangled ds) (is_alphanumeric a) (is_alphanumeric b) refl refl e in
    let first : a ≡ b = h.0 in
    let others : cs ≡ ds = mangled_same cs ds h.1 in cc

-- two mangled texts, each ended by two underscores
fronts : (m k xs ys : List ℕ) → mangled m ++ 95 ∷ 95 ∷ xs ≡ mangled k ++ 95 ∷ 95 ∷ ys → (m ≡ k) × (xs ≡ ys)
fronts [] [] xs ys e = (refl, cc)
fronts [] (b ∷ ds) xs ys e = absurd (no_end b xs (mangled ds ++ 95 ∷ 95 ∷ ys) (is_alphanumeric b) refl (e ∙ append_assoc (spelled (is_alphanumeric b) b) (mangled ds) (95 ∷ 95 ∷ ys)))
fronts (a ∷ cs) [] xs ys e = absurd (no_end a ys (mangled cs ++ 95 ∷ 95 ∷ xs) (is_alphanumeric a) refl (sym e ∙ append_assoc (spelled (is_alphanumeric a) a) (mangled cs) (95 ∷ 95 ∷ xs)))
fronts (a ∷ cs) (b ∷ ds) xs ys e =
    let h = heads a b (mangled cs ++ 95 ∷ 95 ∷ xs) (mangled ds ++ 95 ∷ 95 ∷ ys) (is_alphanumeric a) (is_alphanumeric b) refl refl
    (sym (append_assoc (spelled (is_alphanumeric a) a) (mangled cs) (95 ∷ 95 ∷ xs)) ∙ e ∙ append_assoc (spelled (is_alphanumeric b) b) (mangled ds) (95 ∷ 95 ∷ ys)) in
    let f = fronts cs ds xs ys h.1 in
    let first : a ≡ b = h.0 in
    let others : cs ≡ ds = f.0 in (cc, f.1)

-- Names in C --------------------------------------------------------------------------------

function_name_text : (m n : List ℕ) → function_name m n ≡ 102 ∷ 95 ∷ (mangled m ++ 95 ∷ 95 ∷ mangled n)
unfolding function_name
function_name_text m n = ap (λ bs. 102 ∷ 95 ∷ bs) (append_assoc (mangled m) (95 ∷ 95 ∷ []) (mangled n))

pub function_name_parts : (m n k l : List ℕ) → function_name m n ≡ function_name k l → (m ≡ k) × (n ≡ l)
function_name_parts m n k l e =
    let whole : 102 ∷ 95 ∷ (mangled m ++ 95 ∷ 95 ∷ mangled n) ≡ 102 ∷ 95 ∷ (mangled k ++ 95 ∷ 95 ∷ mangled l) = sym (function_name_text m n) ∙ e ∙ function_name_text k l in
    let f = fronts m k (mangled n) (mangled l) (cc whole) in
    (f.0, mangled_same n l f.1)

pub maker_name_part : (m k : List ℕ) → maker_name m ≡ maker_name k → m ≡ k
unfolding maker_name
maker_name_part m k e = mangled_same m k (cc e)

pub initializer_name_part : (m k : List ℕ) → initializer_name m ≡ initializer_name k → m ≡ k
unfolding initializer_name
initializer_name_part m k e = mangled_same m k (cc e)

-- Functions' names --------------------------------------------------------------------------

pub named_function : (m n : List ℕ) → IsSymbol m → IsSymbol n → IsTrue (is_function_name (function_name m n))
named_function m n of_module of_function = function_name-is_function_name m n of_module of_function

pub named_maker : (m : List ℕ) → IsSymbol m → IsTrue (is_function_name (maker_name m))
named_maker m is = maker_name-is_function_name m is

pub named_initializer : (m : List ℕ) → IsSymbol m → IsTrue (is_function_name (initializer_name m))
named_initializer m is = initializer_name-is_function_name m is

-- Kinds, by how names begin -----------------------------------------------------------------

pub maker_is_maker : (m : List ℕ) → is_maker (maker_name m) ≡ true
unfolding maker_name
maker_is_maker m = refl

pub initializer_is_initializer : (m : List ℕ) → is_initializer (initializer_name m) ≡ true
unfolding initializer_name
initializer_is_initializer m = refl

-- neither a maker, nor an initialisation, nor an entry, nor `main`
pub record IsPlainFunction (name : List ℕ) : Type 0 where
  pub no_maker : is_maker name ≡ false
  pub no_initializer : is_initializer name ≡ false
  pub no_entry : is_entry name ≡ false
  pub no_main : is_main name ≡ false

pub function_is_plain : (m n : List ℕ) → IsPlainFunction (function_name m n)
unfolding function_name
function_is_plain m n = record { no_maker = refl; no_initializer = refl; no_entry = refl; no_main = refl }

pub maker_is_else_nothing : (m : List ℕ) → (is_initializer (maker_name m) ≡ false) × (is_entry (maker_name m) ≡ false) × (is_main (maker_name m) ≡ false)
unfolding maker_name
maker_is_else_nothing m = (refl, refl, refl)

pub initializer_is_else_nothing : (m : List ℕ) → (is_maker (initializer_name m) ≡ false) × (is_entry (initializer_name m) ≡ false) × (is_main (initializer_name m) ≡ false)
unfolding initializer_name
initializer_is_else_nothing m = (refl, refl, refl)

pub main_is_else_nothing : (name : List ℕ) → is_main name ≡ true → (is_maker name ≡ false) × (is_initializer name ≡ false) × (is_entry name ≡ false)
main_is_else_nothing name is = let same : name ≡ codes "main" = same_text name (codes "main") (sym is) in rw same (refl, refl, refl)

-- a name of a kind begins as names of the kind do
begins : (letter : ℕ) (is_rest : List ℕ → Bool) (word : List ℕ) → is_prefixed letter is_rest word ≡ true → is_prefixed letter anything word ≡ true
begins letter is_rest [] is = absurd (cc)
begins letter is_rest (a ∷ []) is = absurd (cc)
begins letter is_rest (a ∷ b ∷ rest) is = by (nat_eq a letter) (nat_eq b 95) is
  where
    by : (x y : Bool) → (x && (y && is_rest rest)) ≡ true → (x && (y && true)) ≡ true
    by true true q = refl
    by true false q = absurd (cc)
    by false y q = absurd (cc)

pub maker_name_begins : (word : List ℕ) → is_maker_name word ≡ true → is_maker word ≡ true
unfolding is_maker_name
maker_name_begins word is = begins 99 is_mangled_symbol word is

pub initializer_name_begins : (word : List ℕ) → is_initializer_name word ≡ true → is_initializer word ≡ true
unfolding is_initializer_name
initializer_name_begins word is = begins 105 is_mangled_symbol word is

pub entry_name_begins : (word : List ℕ) → is_entry_name word ≡ true → is_entry word ≡ true
unfolding is_entry_name
entry_name_begins word is = begins 101 (is_of_module is_symbol_or_number) word is
