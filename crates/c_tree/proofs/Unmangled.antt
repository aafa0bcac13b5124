-- What is read back of a mangled name is the name, and what is read back has the word as its mangling.
use Rattle.std.proofs.Common.{◌≡◌, ℕ, zero, suc, ◌<◌, ◌+◌, ◌-◌, ◌*◌, ◌/◌, ◌%◌, List, [], ◌∷◌, ◌++◌, drop, Bool, true, false, if◌then◌else◌, nat_eq, Option, Some, None, refl, sym, ap, ◌∙◌, subst, arith}
use Rattle.std.specs.Prelude.{nat_lt, ◌&&◌}
use Rattle.std.specs.List.{list_all}
use Rattle.std.proofs.lemmas.Bool.{and_parts}
use Rattle.std.proofs.lemmas.Bool.Decides.{nat_tests}
use Rattle.scheme_data.specs.Symbols.{is_symbol_byte, IsSymbol}
use Rattle.scheme_data.proofs.SymbolTests.{symbol_test, symbol_by_test}
use Rattle.c_tree.specs.Names.{is_alphanumeric, is_hex, hex_digit, hex_value, mangled, mangled_byte, are_bytes, Unmangled, coded, coded_at, unmangled_at, onto_name, unmangled_then, unmangled_from, unmangled, is_some_symbol, is_mangled_symbol}

-- Digits ------------------------------------------------------------------------------------

pub is_hex-hex_digit : (d : ℕ) → d < 16 → is_hex (hex_digit d) ≡ true
is_hex-hex_digit d small = grind (arith, nat_tests)

hex_value-hex_digit : (d : ℕ) → d < 16 → hex_value (hex_digit d) ≡ d
hex_value-hex_digit d small = grind (arith, nat_tests)

hex_digit-hex_value : (h : ℕ) → is_hex h ≡ true → hex_digit (hex_value h) ≡ h
hex_digit-hex_value h is = grind (arith, nat_tests)

hex_value_small : (h : ℕ) → is_hex h ≡ true → hex_value h < 16
hex_value_small h is = grind (arith, nat_tests)

two_digits : (b : ℕ) → 16 * (b / 16) + b % 16 ≡ b
two_digits b = omega arith

first_digit : (a b : ℕ) → b < 16 → (16 * a + b) / 16 ≡ a
first_digit a b small = omega arith

second_digit : (a b : ℕ) → b < 16 → (16 * a + b) % 16 ≡ b
second_digit a b small = omega arith

-- Forwards ----------------------------------------------------------------------------------

abbrev spelled : Bool → ℕ → List ℕ
spelled x b = if x then b ∷ [] else 95 ∷ hex_digit (b / 16) ∷ hex_digit (b % 16) ∷ []

coded_again : (b : ℕ) (rest : List ℕ) → b < 256 → is_alphanumeric b ≡ false → coded_at (hex_digit (b / 16) ∷ hex_digit (b % 16) ∷ rest) ≡ Some (record { byte = b; size = 3 })
coded_again b rest small plain =
    let h = b / 16 in
    let l = b % 16 in
    let is : (is_hex (hex_digit h) && is_hex (hex_digit l)) ≡ true = rw (is_hex-hex_digit h (omega arith), is_hex-hex_digit l (omega arith)) refl in
    let value : 16 * hex_value (hex_digit h) + hex_value (hex_digit l) ≡ b = rw (hex_value-hex_digit h (omega arith), hex_value-hex_digit l (omega arith)) (two_digits b) in
    ap (λ t. if t then coded (16 * hex_value (hex_digit h) + hex_value (hex_digit l)) else None) is
    ∙ ap coded value
    ∙ ap (λ t. if t then None else Some (record { byte = b; size = 3 })) plain

byte_read : (b : ℕ) (rest : List ℕ) → b < 256 → (x : Bool) → is_alphanumeric b ≡ x → unmangled_from 0 (spelled x b ++ rest) ≡ onto_name b (unmangled_from 0 rest)
byte_read b rest small true e = ap (λ t. unmangled_then (if t then Some (record { byte = b; size = 1 }) else (if nat_eq b 95 then coded_at rest else None)) (λ skip. unmangled_from skip rest)) e
byte_read b rest small false e =
    let more = hex_digit (b / 16) ∷ hex_digit (b % 16) ∷ rest in
    ap (λ u. unmangled_then u (λ skip. unmangled_from skip more)) (coded_again b rest small e)

name_read : (n : List ℕ) → are_bytes n ≡ true → unmangled_from 0 (mangled n) ≡ Some n
name_read [] bytes = refl
name_read (b ∷ n) bytes =
    let parts = and_parts (nat_lt b 256) (are_bytes n) bytes in
    byte_read b (mangled n) (below b parts.0) (is_alphanumeric b) refl ∙ ap (onto_name b) (name_read n parts.1)
  where
    below : (b : ℕ) → nat_lt b 256 ≡ true → b < 256
    below b small = grind (arith, nat_tests)

pub unmangled-mangled : (n : List ℕ) → are_bytes n ≡ true → unmangled (mangled n) ≡ Some n
unfolding unmangled
unmangled-mangled n bytes = name_read n bytes

-- Backwards ---------------------------------------------------------------------------------

abbrev Spells : ℕ → List ℕ → Unmangled → Type 0
Spells b bs u = b ∷ bs ≡ mangled_byte u.byte ++ drop (u.size - 1) bs

spells_coded : (h l : ℕ) (rest : List ℕ) (u : Unmangled) → is_hex h ≡ true → is_hex l ≡ true → coded (16 * hex_value h + hex_value l) ≡ Some u → Spells 95 (h ∷ l ∷ rest) u
spells_coded h l rest u eh el q = by (is_alphanumeric v) refl q
  where
    v : ℕ
    v = 16 * hex_value h + hex_value l

    first : hex_digit (v / 16) ≡ h
    first = ap hex_digit (first_digit (hex_value h) (hex_value l) (hex_value_small l el)) ∙ hex_digit-hex_value h eh

    second : hex_digit (v % 16) ≡ l
    second = ap hex_digit (second_digit (hex_value h) (hex_value l) (hex_value_small l el)) ∙ hex_digit-hex_value l el

    by : (x : Bool) → is_alphanumeric v ≡ x → (if x then None else Some (record { byte = v; size = 3 })) ≡ Some u → Spells 95 (h ∷ l ∷ rest) u
    by true e q = absurd (cc)
    by false e q =
        let same : record { byte = v; size = 3 } ≡ u = cc in
        subst (Spells 95 (h ∷ l ∷ rest)) same
        ((λ i. 95 ∷ sym first i ∷ sym second i ∷ rest) ∙ ap (λ t. spelled t v ++ rest) (sym e))

spells_at : (bs : List ℕ) (u : Unmangled) → coded_at bs ≡ Some u → Spells 95 bs u
spells_at [] u q = absurd (cc)
spells_at (h ∷ []) u q = absurd (cc)
spells_at (h ∷ l ∷ rest) u q = by (is_hex h) refl (is_hex l) refl q
  where
    by : (x : Bool) → is_hex h ≡ x → (y : Bool) → is_hex l ≡ y → (if x && y then coded (16 * hex_value h + hex_value l) else None) ≡ Some u → Spells 95 (h ∷ l ∷ rest) u
    by true eh true el q = spells_coded h l rest u eh el q
    by true eh false el q = absurd (cc)
    by false eh true el q = absurd (cc)
    by false eh false el q = absurd (cc)

spells : (b : ℕ) (bs : List ℕ) (u : Unmangled) → unmangled_at b bs ≡ Some u → Spells b bs u
spells b bs u q = by (is_alphanumeric b) refl (nat_eq b 95) refl q
  where
    underscore : (b : ℕ) → nat_eq b 95 ≡ true → b ≡ 95
    underscore b e = grind (arith, nat_tests)

    by : (x : Bool) → is_alphanumeric b ≡ x → (y : Bool) → nat_eq b 95 ≡ y → (if x then Some (record { byte = b; size = 1 }) else (if y then coded_at bs else None)) ≡ Some u → Spells b bs u
    by true e y ey q =
        let same : record { byte = b; size = 1 } ≡ u = cc in
        subst (Spells b bs) same (ap (λ t. spelled t b ++ bs) (sym e))
    by false e true ey q = ap (λ c. c ∷ bs) (underscore b ey) ∙ spells_at bs u q
    by false e false ey q = absurd (cc)

-- the front of a name that was read
record Front (b : ℕ) (o : Option (List ℕ)) (n : List ℕ) : Type 0 where
  others : List ℕ
  read : o ≡ Some others
  is : n ≡ b ∷ others

front_of : (b : ℕ) (o : Option (List ℕ)) (n : List ℕ) → onto_name b o ≡ Some n → Front b o n
front_of b None n e = absurd (cc)
front_of b (Some others) n e = record { others = others; read = refl; is = cc }

read_is : (bs : List ℕ) (skip : ℕ) (n : List ℕ) → unmangled_from skip bs ≡ Some n → drop skip bs ≡ mangled n
read_is [] skip n e = let none : n ≡ [] = cc in drop_none skip ∙ ap mangled (sym none)
  where
    drop_none : (k : ℕ) → ◌≡◌ {A = List ℕ} (drop k []) []
    drop_none zero = refl
    drop_none (suc k) = refl
read_is (b ∷ bs) (suc skip) n e = read_is bs skip n e
read_is (b ∷ bs) zero n e = by (unmangled_at b bs) refl e (λ skip m q. read_is bs skip m q)
  where
    by : (o : Option Unmangled) → unmangled_at b bs ≡ o → unmangled_then o (λ skip. unmangled_from skip bs) ≡ Some n → ((skip : ℕ) (m : List ℕ) → unmangled_from skip bs ≡ Some m → drop skip bs ≡ mangled m) → b ∷ bs ≡ mangled n
    by None at q later = absurd (cc)
    by (Some u) at q later =
        let f = front_of u.byte (unmangled_from (u.size - 1) bs) n q in
        spells b bs u at ∙ ap (λ rest. mangled_byte u.byte ++ rest) (later (u.size - 1) f.others f.read) ∙ ap mangled (sym f.is)

pub unmangled-is : (word n : List ℕ) → unmangled word ≡ Some n → word ≡ mangled n
unfolding unmangled
unmangled-is word n e = read_is word 0 n e

-- Symbols -----------------------------------------------------------------------------------

symbol_byte_small : (b : ℕ) → is_symbol_byte b ≡ true → nat_lt b 256 ≡ true
symbol_byte_small b e = grind (arith, nat_tests)

symbol_bytes_small : (bs : List ℕ) → list_all is_symbol_byte bs ≡ true → are_bytes bs ≡ true
symbol_bytes_small [] e = refl
symbol_bytes_small (b ∷ bs) e =
    let parts = and_parts (is_symbol_byte b) (list_all is_symbol_byte bs) e in
    rw (symbol_byte_small b parts.0) (symbol_bytes_small bs parts.1)

pub unmangled_symbol : (n : List ℕ) → IsSymbol n → unmangled (mangled n) ≡ Some n
unmangled_symbol n is = unmangled-mangled n (symbol_bytes_small n is.bytes)

pub mangled_symbol : (n : List ℕ) → IsSymbol n → is_mangled_symbol (mangled n) ≡ true
mangled_symbol n is = ap is_some_symbol (unmangled_symbol n is) ∙ symbol_test n is

-- the symbol that a word is the mangling of
pub record Mangles (word : List ℕ) : Type 0 where
  pub name : List ℕ
  pub is : word ≡ mangled name
  pub symbol : IsSymbol name

pub mangles : (word : List ℕ) → is_mangled_symbol word ≡ true → Mangles word
mangles word e = by (unmangled word) refl e
  where
    by : (o : Option (List ℕ)) → unmangled word ≡ o → is_some_symbol o ≡ true → Mangles word
    by None at q = absurd (cc)
    by (Some n) at q = record { name = n; is = unmangled-is word n at; symbol = symbol_by_test n q }
