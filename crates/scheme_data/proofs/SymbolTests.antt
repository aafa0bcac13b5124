-- The test of symbols tells what a symbol is.
use Rattle.std.proofs.Common.{◌≡◌, ℕ, ◌≤◌, true, List, [], ◌∷◌, length, arith}
use Rattle.std.specs.Prelude.{nat_le, IsTrue}
use Rattle.std.specs.List.{list_all}
use Rattle.std.proofs.lemmas.Bool.{and_parts}
use Rattle.std.proofs.lemmas.Bool.Decides.{nat_tests}
use Rattle.scheme_data.specs.Symbols.{is_symbol_byte, begins_as_symbol, has_symbol_form, is_symbol, IsSymbol}

at_most : (m n : ℕ) → nat_le m n ≡ true → m ≤ n
at_most m n h = grind (arith, nat_tests)

at_most_test : (m n : ℕ) → m ≤ n → nat_le m n ≡ true
at_most_test m n h = grind (arith, nat_tests)

some_byte : (name : List ℕ) → IsTrue (begins_as_symbol name) → 1 ≤ length name
some_byte [] h = absurd (cc)
some_byte (b ∷ bs) h = omega arith

-- a run of symbol bytes of that form is a symbol
pub symbol_of_form : (name : List ℕ) → has_symbol_form name ≡ true → IsTrue (list_all is_symbol_byte name) → IsSymbol name
symbol_of_form name form bytes =
    let parts = and_parts (nat_le (length name) 255) (begins_as_symbol name) form in
    record { some = some_byte name parts.1; short = at_most (length name) 255 parts.0; bytes = bytes; front = parts.1 }

pub symbol_by_test : (name : List ℕ) → is_symbol name ≡ true → IsSymbol name
symbol_by_test name h =
    let parts = and_parts (has_symbol_form name) (list_all is_symbol_byte name) h in
    symbol_of_form name parts.0 parts.1

pub has_form : (name : List ℕ) → IsSymbol name → has_symbol_form name ≡ true
has_form name h = rw (at_most_test (length name) 255 h.short) h.front

pub symbol_test : (name : List ℕ) → IsSymbol name → is_symbol name ≡ true
symbol_test name h = rw (has_form name h) h.bytes
