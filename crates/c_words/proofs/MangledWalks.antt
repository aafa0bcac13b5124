-- A walk over the mangling of a symbol, byte by byte.
use Rattle.std.proofs.Common.{◌≡◌, ℕ, ◌+◌, ◌*◌, ◌<◌, ◌/◌, ◌%◌, List, [], ◌∷◌, ◌++◌, drop, Bool, true, false, if◌then◌else◌, nat_eq, Option, Some, None, refl, sym, ap, ◌∙◌, arith}
use Rattle.std.specs.Prelude.{◌&&◌, ◌||◌}
use Rattle.std.specs.Option.{is_some}
use Rattle.std.proofs.lemmas.Bool.Decides.{nat_tests}
use Rattle.scheme_data.specs.Symbols.{is_symbol}
use Rattle.c_tree.specs.Names.{is_alphanumeric, is_hex, hex_digit, hex_value, mangled_byte, Unmangled, coded, coded_at, unmangled_at, onto_name, unmangled_then, unmangled_from, unmangled, is_some_symbol, is_mangled_symbol, Cut, before_cut, begins_cut, cut, is_cut, is_of_module}
use Rattle.c_tree.specs.Reading.{cut_onto}
use Rattle.c_tree.proofs.Unmangled.{is_hex-hex_digit}
use Rattle.c_words.specs.declared.symbols.SymbolBytes.{SymbolBytes}
use Rattle.c_words.specs.Shapes.{completes}
use Rattle.c_words.specs.Walks.{Walk, ended}
use Rattle.c_words.specs.Manglings.{begins_well, IsNext, EndsSo}
use Rattle.c_words.specs.declared.manglings.Spelled.TheVariants as spelled
use Rattle.c_words.specs.declared.manglings.Ending.TheVariants as ending

-- whether the bytes so far and a name that is read behind them are a symbol
abbrev pub completed : SymbolBytes → Option (List ℕ) → Bool
completed bytes None = false
completed bytes (Some name) = completes bytes name

-- whether they are one where a word is cut, and what is behind the cut is of a kind
abbrev pub completed_at : SymbolBytes → (List ℕ → Bool) → Option Cut → Bool
completed_at bytes is_name None = false
completed_at bytes is_name (Some c) = completed bytes (unmangled_from 0 c.before) && is_name c.behind

-- what is asked of a word is what is asked of the rest, behind the bytes so far
pub record Behind (word : List ℕ) (bytes : SymbolBytes) (rest : List ℕ) : Type 0 where
  pub symbol : is_mangled_symbol word ≡ completed bytes (unmangled_from 0 rest)
  pub member : (is_name : List ℕ → Bool) → is_of_module is_name word ≡ completed_at bytes is_name (cut rest)

-- At the start ------------------------------------------------------------------------------

module _ (bytes : SymbolBytes) (new : (rest : List ℕ) → completes bytes rest ≡ is_symbol rest) where
  whole : (o : Option (List ℕ)) → is_some_symbol o ≡ completed bytes o
  whole None = refl
  whole (Some name) = sym (new name)

  pub at_start : (word : List ℕ) → Behind word bytes word
  unfolding unmangled
  at_start word = record { symbol = whole (unmangled_from 0 word); member = λ is_name. by is_name (cut word) }
    where
      by : (is_name : List ℕ → Bool) (o : Option Cut) → is_cut is_name o ≡ completed_at bytes is_name o
      by is_name None = refl
      by is_name (Some c) = ap (λ t. t && is_name c.behind) (whole (unmangled_from 0 c.before))

-- Over a byte -------------------------------------------------------------------------------

abbrev spelling : Bool → ℕ → List ℕ
spelling x b = if x then b ∷ [] else 95 ∷ hex_digit (b / 16) ∷ hex_digit (b % 16) ∷ []

hex_value-hex_digit : (d : ℕ) → d < 16 → hex_value (hex_digit d) ≡ d
hex_value-hex_digit d small = grind (arith, nat_tests)

two_digits : (b : ℕ) → 16 * (b / 16) + b % 16 ≡ b
two_digits b = omega arith

coded_again : (b : ℕ) (rest : List ℕ) → b < 256 → is_alphanumeric b ≡ false → coded_at (hex_digit (b / 16) ∷ hex_digit (b % 16) ∷ rest) ≡ Some (record { byte = b; size = 3 })
coded_again b rest small plain =
    let h = b / 16 in
    let l = b % 16 in
    let is : (is_hex (hex_digit h) && is_hex (hex_digit l)) ≡ true = rw (is_hex-hex_digit h (omega arith), is_hex-hex_digit l (omega arith)) refl in
    let value : 16 * hex_value (hex_digit h) + hex_value (hex_digit l) ≡ b = rw (hex_value-hex_digit h (omega arith), hex_value-hex_digit l (omega arith)) (two_digits b) in
    ap (λ t. if t then coded (16 * hex_value (hex_digit h) + hex_value (hex_digit l)) else None) is
    ∙ ap coded value
    ∙ ap (λ t. if t then None else Some (record { byte = b; size = 3 })) plain

pub byte_read : (b : ℕ) (rest : List ℕ) → b < 256 → (x : Bool) → is_alphanumeric b ≡ x → unmangled_from 0 (spelling x b ++ rest) ≡ onto_name b (unmangled_from 0 rest)
byte_read b rest small true e = ap (λ t. unmangled_then (if t then Some (record { byte = b; size = 1 }) else (if nat_eq b 95 then coded_at rest else None)) (λ skip. unmangled_from skip rest)) e
byte_read b rest small false e =
    let more = hex_digit (b / 16) ∷ hex_digit (b % 16) ∷ rest in
    ap (λ u. unmangled_then u (λ skip. unmangled_from skip more)) (coded_again b rest small e)

no_underscore : (b : ℕ) → is_alphanumeric b ≡ true → nat_eq b 95 ≡ false
no_underscore b e = grind (arith, nat_tests)

digit_no_underscore : (n : ℕ) → nat_eq (hex_digit n) 95 ≡ false
digit_no_underscore n = grind (arith, nat_tests)

passed : (b : ℕ) (rest : List ℕ) → nat_eq b 95 ≡ false → cut (b ∷ rest) ≡ before_cut b (cut rest)
passed b rest e = rw e refl

byte_passed : (b : ℕ) (rest : List ℕ) (x : Bool) → is_alphanumeric b ≡ x → cut (spelling x b ++ rest) ≡ cut_onto (spelling x b) (cut rest)
byte_passed b rest true e = passed b rest (no_underscore b e) ∙ by (cut rest)
  where
    by : (o : Option Cut) → before_cut b o ≡ cut_onto (b ∷ []) o
    by None = refl
    by (Some c) = refl
byte_passed b rest false e =
    first ∙ ap (before_cut 95) (passed h (l ∷ rest) (digit_no_underscore (b / 16)) ∙ ap (before_cut h) (passed l rest (digit_no_underscore (b % 16)))) ∙ by (cut rest)
  where
    h : ℕ
    h = hex_digit (b / 16)

    l : ℕ
    l = hex_digit (b % 16)

    turned : (n : ℕ) → nat_eq n 95 ≡ false → nat_eq 95 n ≡ false
    turned n e = grind (arith, nat_tests)

    first : cut (95 ∷ h ∷ l ∷ rest) ≡ before_cut 95 (cut (h ∷ l ∷ rest))
    first = ap (λ t. if t then Some (record { before = []; behind = l ∷ rest }) else before_cut 95 (cut (h ∷ l ∷ rest))) (turned h (digit_no_underscore (b / 16)))

    by : (o : Option Cut) → before_cut 95 (before_cut h (before_cut l o)) ≡ cut_onto (95 ∷ h ∷ l ∷ []) o
    by None = refl
    by (Some c) = refl

pub over_byte : (word : List ℕ) (old new : SymbolBytes) (left rest : List ℕ) (b : ℕ) → b < 256
    → left ≡ mangled_byte b ++ rest → ((more : List ℕ) → completes new more ≡ completes old (b ∷ more)) → Behind word old left → Behind word new rest
over_byte word old new left rest b small is step behind =
    record {
      symbol = behind.symbol ∙ ap (λ bs. completed old (unmangled_from 0 bs)) is ∙ ap (completed old) (byte_read b rest small (is_alphanumeric b) refl) ∙ onto (unmangled_from 0 rest);
      member = λ is_name. behind.member is_name ∙ ap (λ bs. completed_at old is_name (cut bs)) is ∙ ap (completed_at old is_name) (byte_passed b rest (is_alphanumeric b) refl) ∙ by is_name (cut rest);
    }
  where
    onto : (o : Option (List ℕ)) → completed old (onto_name b o) ≡ completed new o
    onto None = refl
    onto (Some name) = sym (step name)

    by : (is_name : List ℕ → Bool) (o : Option Cut) → completed_at old is_name (cut_onto (mangled_byte b) o) ≡ completed_at new is_name o
    by is_name None = refl
    by is_name (Some c) = ap (λ t. t && is_name c.behind) (ap (completed old) (byte_read b c.before small (is_alphanumeric b) refl) ∙ onto (unmangled_from 0 c.before))

-- Where nothing of a mangled name stands ------------------------------------------------------

neither : (x y : Bool) → (x || y) ≡ false → (x ≡ false) × (y ≡ false)
neither true y e = absurd (cc)
neither false y e = (refl, e)

no_spelling : (o : Option Unmangled) → is_some o ≡ false → o ≡ None
no_spelling None e = refl
no_spelling (Some u) e = absurd (cc)

pub none_read : (left : List ℕ) → begins_well left ≡ false → unmangled_from 0 left ≡ None
none_read [] e = absurd (cc)
none_read (b ∷ bs) e =
    let parts = neither (begins_cut (b ∷ bs)) (is_some (unmangled_at b bs)) e in
    ap (λ u. unmangled_then u (λ skip. unmangled_from skip bs)) (no_spelling (unmangled_at b bs) parts.1)

abbrev coded_before : Option Cut → Option Unmangled
coded_before None = None
coded_before (Some c) = coded_at c.before

-- what spells no byte spells none where it is cut short
cut_short : (bs : List ℕ) → coded_at bs ≡ None → coded_before (cut bs) ≡ None
cut_short [] e = refl
cut_short (h ∷ []) e = by (nat_eq h 95)
  where
    by : (t : Bool) → coded_before (if t && false then Some (record { before = []; behind = [] }) else None) ≡ None
    by true = refl
    by false = refl
cut_short (h ∷ l ∷ rest) e = by (begins_cut (h ∷ l ∷ rest)) (begins_cut (l ∷ rest)) (cut rest)
  where
    by : (t u : Bool) (o : Option Cut) → coded_before (if t then Some (record { before = []; behind = rest }) else before_cut h (if u then Some (record { before = []; behind = drop 1 rest }) else before_cut l o)) ≡ None
    by true u o = refl
    by false true o = refl
    by false false None = refl
    by false false (Some c) = e

module _ (bytes : SymbolBytes) (is_name : List ℕ → Bool) where
  none_over : (b : ℕ) (y : Bool) → is_alphanumeric b ≡ false → nat_eq b 95 ≡ y → (o : Option Cut) → (if y then coded_before o else None) ≡ None → completed_at bytes is_name (before_cut b o) ≡ false
  none_over b y plain bar None q = refl
  none_over b y plain bar (Some c) q =
      let at : unmangled_at b c.before ≡ None =
      ap (λ t. if t then Some (record { byte = b; size = 1 }) else (if nat_eq b 95 then coded_at c.before else None)) plain
      ∙ ap (λ t. if t then coded_at c.before else None) bar
      ∙ q in
      ap (λ u. completed bytes (unmangled_then u (λ skip. unmangled_from skip c.before)) && is_name c.behind) at

  none_before : (left : List ℕ) → begins_well left ≡ false → completed_at bytes is_name (cut left) ≡ false
  none_before [] e = absurd (cc)
  none_before (b ∷ bs) e =
      let parts = neither (begins_cut (b ∷ bs)) (is_some (unmangled_at b bs)) e in
      ap (λ t. completed_at bytes is_name (if t then Some (record { before = []; behind = drop 1 bs }) else before_cut b (cut bs))) parts.0
      ∙ by (is_alphanumeric b) refl (nat_eq b 95) refl (no_spelling (unmangled_at b bs) parts.1)
    where
      by : (x : Bool) → is_alphanumeric b ≡ x → (y : Bool) → nat_eq b 95 ≡ y → (if x then Some (record { byte = b; size = 1 }) else (if y then coded_at bs else None)) ≡ None → completed_at bytes is_name (before_cut b (cut bs)) ≡ false
      by true plain y bar q = absurd (cc)
      by false plain true bar q = none_over b true plain bar (cut bs) (cut_short bs q)
      by false plain false bar q = none_over b false plain bar (cut bs) refl

module _ (word : List ℕ) (bytes : SymbolBytes) (left : List ℕ) (behind : Behind word bytes left) where
  pub symbol_where_wrong : begins_well left ≡ false → is_mangled_symbol word ≡ false
  symbol_where_wrong wrong = behind.symbol ∙ ap (completed bytes) (none_read left wrong)

  pub member_where_wrong : begins_well left ≡ false → (is_name : List ℕ → Bool) → is_of_module is_name word ≡ false
  member_where_wrong wrong is_name = behind.member is_name ∙ none_before bytes is_name left wrong

abbrev ended_still : (old now new : Walk) → now.whole ≡ old.whole → new ≡ ended now → new ≡ ended old
ended_still old now new same e = e ∙ ap (λ w. ended (record { whole = w; left = now.left })) same

-- the walk at the start, before what stands next, behind that, and at the end of the word
module _ (old now next new : Walk) (bytes : SymbolBytes) (behind : Behind old.left bytes now.left) (same : now.whole ≡ old.whole) (end : new ≡ ended next) where
  pub wrong_next : IsNext spelled.Wrong now next → EndsSo ending.Wrong old new
  wrong_next is =
      (symbol_where_wrong old.left bytes now.left behind is.0, member_where_wrong old.left bytes now.left behind is.0, ended_still old next new (is.1 ∙ same) end)
