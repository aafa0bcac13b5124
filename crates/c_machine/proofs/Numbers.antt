-- Numbers and words, and their bits.
use Rattle.std.proofs.Common.{◌≡◌, ℕ, ◌+◌, ◌-◌, ◌*◌, ◌/◌, ◌%◌, ◌^◌, ◌<◌, Bool, true, false, refl, ap, ◌∙◌, arith, if◌then◌else◌}
use Rattle.std.specs.Prelude.{nat_lt, nat_eq, ℤ, pos, negsuc}
use Rattle.std.proofs.lemmas.Bool.{ltb-true, lt-ltb, le-ltb, eq-eqb, ne_eqb}
use Rattle.scheme_data.specs.Decimal.{number_text}
use Rattle.scheme_data.specs.Fixnum.{IsFixnum, long_word, fixnum_word}
use Rattle.c_meaning.specs.Word.{Word, Fixnum, False, True, Nil, Unspec, Eof, bits_of, printed}
use Rattle.c_meaning.specs.Operations.{status_in}
use Rattle.c_meaning.specs.Plain.{is_byte}
use Rattle.c_machine.specs.Words.{long_of, fixnum_of, word_text, byte_of, status_of, constant_text}

pub when_true : {A : Type 0} (b : Bool) (x y : A) → b ≡ true → (if b then x else y) ≡ x
when_true b x y e = ap (λ b. if b then x else y) e

pub when_false : {A : Type 0} (b : Bool) (x y : A) → b ≡ false → (if b then x else y) ≡ y
when_false b x y e = ap (λ b. if b then x else y) e

pub long_back : (z : ℤ) → IsFixnum z → long_of (long_word z) ≡ z
long_back (pos n) h =
    let lt = ltb-true n (2 ^ 60) h in
    when_true (nat_lt n (2 ^ 63)) (pos n) (negsuc (2 ^ 64 - (n + 1))) (lt-ltb n (2 ^ 63) (omega arith))
long_back (negsuc n) h =
    let lt = ltb-true n (2 ^ 60) h in
    let m = 2 ^ 64 - (n + 1) in
    let back : 2 ^ 64 - (m + 1) ≡ n = omega arith in
    when_false (nat_lt m (2 ^ 63)) (pos m) (negsuc (2 ^ 64 - (m + 1))) (le-ltb m (2 ^ 63) (omega arith)) ∙ ap negsuc back

pub long_fits : (z : ℤ) → IsFixnum z → long_word z < 2 ^ 64
long_fits (pos n) h = let lt = ltb-true n (2 ^ 60) h in omega arith
long_fits (negsuc n) h = let lt = ltb-true n (2 ^ 60) h in omega arith

pub fixnum_back : (z : ℤ) → IsFixnum z → fixnum_of (fixnum_word z) ≡ z
fixnum_back (pos n) h =
    let lt = ltb-true n (2 ^ 60) h in
    let w = 8 * n in
    let back : w / 8 ≡ n = omega arith in
    when_true (nat_lt w (2 ^ 63)) (pos (w / 8)) (negsuc ((2 ^ 64 - w) / 8 - 1)) (lt-ltb w (2 ^ 63) (omega arith)) ∙ ap pos back
fixnum_back (negsuc n) h =
    let lt = ltb-true n (2 ^ 60) h in
    let w = 2 ^ 64 - 8 * (n + 1) in
    let back : (2 ^ 64 - w) / 8 - 1 ≡ n = omega arith in
    when_false (nat_lt w (2 ^ 63)) (pos (w / 8)) (negsuc ((2 ^ 64 - w) / 8 - 1)) (le-ltb w (2 ^ 63) (omega arith)) ∙ ap negsuc back

pub fixnum_tag : (z : ℤ) → IsFixnum z → nat_eq (fixnum_word z % 8) 0 ≡ true
fixnum_tag (pos n) h = let e : (8 * n) % 8 ≡ 0 = omega arith in eq-eqb ((8 * n) % 8) 0 e
fixnum_tag (negsuc n) h =
    let lt = ltb-true n (2 ^ 60) h in
    let w = 2 ^ 64 - 8 * (n + 1) in
    let e : w % 8 ≡ 0 = omega arith in
    eq-eqb (w % 8) 0 e

pub fixnum_no_constant : (z : ℤ) → IsFixnum z → nat_eq (fixnum_word z) (bits_of False) ≡ false
fixnum_no_constant (pos n) h = ne_eqb (8 * n) 3 (omega arith)
fixnum_no_constant (negsuc n) h =
    let lt = ltb-true n (2 ^ 60) h in
    ne_eqb (2 ^ 64 - 8 * (n + 1)) 3 (omega arith)

-- a word whose number has the tag of its kind
abbrev pub WordFits : Word → Type 0
WordFits (Fixnum n) = IsFixnum n
WordFits False = Unit {0}
WordFits True = Unit {0}
WordFits Nil = Unit {0}
WordFits Unspec = Unit {0}
WordFits Eof = Unit {0}

pub word_text_is : (w : Word) → WordFits w → word_text (bits_of w) ≡ printed w
word_text_is (Fixnum z) h = when_true (nat_eq (fixnum_word z % 8) 0) (number_text (fixnum_of (fixnum_word z))) (constant_text (fixnum_word z)) (fixnum_tag z h) ∙ ap number_text (fixnum_back z h)
word_text_is False h = refl
word_text_is True h = refl
word_text_is Nil h = refl
word_text_is Unspec h = refl
word_text_is Eof h = refl

byte_is : (z : ℤ) → byte_of z ≡ status_in (Fixnum z)
byte_is (pos n) = refl
byte_is (negsuc n) = refl

pub status_is : (w : Word) → WordFits w → status_of (bits_of w) ≡ status_in w
status_is (Fixnum z) h = when_true (nat_eq (fixnum_word z % 8) 0) (byte_of (fixnum_of (fixnum_word z))) 0 (fixnum_tag z h) ∙ ap byte_of (fixnum_back z h) ∙ byte_is z
status_is False h = refl
status_is True h = refl
status_is Nil h = refl
status_is Unspec h = refl
status_is Eof h = refl

small_byte : (n : ℕ) (b : Bool) → nat_lt n 256 ≡ b → is_byte (pos (if b then n else 0)) ≡ true
small_byte n true e = e
small_byte n false e = refl

pub status_byte : (w : Word) → is_byte (pos (status_in w)) ≡ true
status_byte (Fixnum (pos n)) = small_byte n (nat_lt n 256) refl
status_byte (Fixnum (negsuc n)) = refl
status_byte False = refl
status_byte True = refl
status_byte Nil = refl
status_byte Unspec = refl
status_byte Eof = refl

-- a number from 0 to 255 is its own bits
pub byte_fixnum : (z : ℤ) → is_byte z ≡ true → IsFixnum z
byte_fixnum (pos n) h = let lt = ltb-true n 256 h in lt-ltb n (2 ^ 60) (omega arith)
byte_fixnum (negsuc n) h = absurd (cc)
