-- A word is cut at its first `__`, which a mangled name has none of.
use Rattle.std.proofs.Common.{◌≡◌, ℕ, ◌/◌, ◌%◌, List, [], ◌∷◌, ◌++◌, nat_eq, Bool, true, false, if◌then◌else◌, Option, Some, None, refl, ap, ◌∙◌, append_assoc, arith}
use Rattle.std.proofs.lemmas.Bool.Decides.{nat_tests}
use Rattle.c_tree.specs.Names.{is_alphanumeric, hex_digit, mangled, mangled_byte, Cut, before_cut, cut}
use Rattle.c_tree.specs.Reading.{cut_onto}

-- Mangled names ------------------------------------------------------------------------------

no_underscore : (b : ℕ) → is_alphanumeric b ≡ true → nat_eq b 95 ≡ false
no_underscore b e = grind (arith, nat_tests)

digit_no_underscore : (n : ℕ) → nat_eq (hex_digit n) 95 ≡ false
digit_no_underscore n = grind (arith, nat_tests)

passed : (b : ℕ) (rest : List ℕ) → nat_eq b 95 ≡ false → cut (b ∷ rest) ≡ before_cut b (cut rest)
passed b rest e = rw e refl

abbrev spelled : Bool → ℕ → List ℕ
spelled x b = if x then b ∷ [] else 95 ∷ hex_digit (b / 16) ∷ hex_digit (b % 16) ∷ []

byte_passed : (b : ℕ) (rest : List ℕ) (x : Bool) → is_alphanumeric b ≡ x → cut (spelled x b ++ rest) ≡ cut_onto (spelled x b) (cut rest)
byte_passed b rest true e = passed b rest (no_underscore b e) ∙ by (cut rest)
  where
    by : (o : Option Cut) → before_cut b o ≡ cut_onto (b ∷ []) o
    by None = refl
    by (Some c) = refl
byte_passed b rest false e =
    let more = h ∷ l ∷ rest in
    first ∙ ap (before_cut 95) (passed h (l ∷ rest) (digit_no_underscore (b / 16)) ∙ ap (before_cut h) (passed l rest (digit_no_underscore (b % 16)))) ∙ by (cut rest)
  where
    h : ℕ
    h = hex_digit (b / 16)

    l : ℕ
    l = hex_digit (b % 16)

    turned : (n : ℕ) → nat_eq n 95 ≡ false → nat_eq 95 n ≡ false
    turned n e = grind (arith, nat_tests)

    first : cut (95 ∷ h ∷ l ∷ rest) ≡ before_cut 95 (cut (h ∷ l ∷ rest))
    first = ap (λ t. if t then Some (record { before = []; behind = l ∷ rest }) else before_cut 95 (cut (h ∷ l ∷ rest))) (turned h (digit_no_underscore (b / 16)))

    by : (o : Option Cut) → before_cut 95 (before_cut h (before_cut l o)) ≡ cut_onto (95 ∷ h ∷ l ∷ []) o
    by None = refl
    by (Some c) = refl

-- what is behind a mangled name and `__`
pub cut-mangled : (m rest : List ℕ) → cut (mangled m ++ 95 ∷ 95 ∷ rest) ≡ Some (record { before = mangled m; behind = rest })
cut-mangled [] rest = refl
cut-mangled (b ∷ m) rest =
    ap cut (append_assoc (mangled_byte b) (mangled m) (95 ∷ 95 ∷ rest))
    ∙ byte_passed b (mangled m ++ 95 ∷ 95 ∷ rest) (is_alphanumeric b) refl
    ∙ ap (cut_onto (mangled_byte b)) (cut-mangled m rest)
