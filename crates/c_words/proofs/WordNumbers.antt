-- The number that a word spells.
use Rattle.std.proofs.Common.{◌≡◌, ℕ, zero, suc, ◌+◌, ◌-◌, ◌*◌, ◌^◌, ◌<◌, ◌≤◌, List, [], ◌∷◌, length, get_or, Bool, true, false, ◌&&◌, nat_lt, nat_le, nat_eq, if◌then◌else◌, Option, Some, None, refl, sym, ap, ◌∙◌, arith, rules}
use Rattle.std.specs.Prelude.{ℤ, pos, negsuc}
use Rattle.std.specs.List.{list_all}
use Rattle.std.proofs.lemmas.Bool.{and_parts, and_from, ltb-true, lt-ltb, leb-true, le-leb, ne_eqb, eqb-true}
use Rattle.std.proofs.lemmas.Slice.Eq.{bytes_eq-Decides}
use Rattle.std.proofs.lemmas.Str.Parse.{IsNumeralModel, IsDigitsTest, FoldsDigits, numerals_by_fold}
use Rattle.std.proofs.lemmas.Fmt.{decimal-digits_value, digits_value-decimal}
use Rattle.scheme_data.specs.Decimal.{is_digit, digits_value, decimal_text, number_text}
use Rattle.scheme_data.specs.Fixnum.{is_fixnum, IsFixnum}
use Rattle.scheme_data.specs.Names.{is_same}
use Rattle.scheme_data.proofs.NumberTexts.{decimal_text-decimal, decimal_text-IsNumeralText, digits-decimal_text}
use Rattle.c_tree.specs.Names.{is_numeral, begins_with}
use Rattle.c_words.specs.Words.{signed_value, if_spelled, number_of, signed}
use Rattle.c_words.specs.Magnitudes.{with_digit, digits_then, with_digits, magnitude_of, signed_fixnum, with_sign}

-- Numerals and their values -----------------------------------------------------------------

digits_test : IsDigitsTest (λ ds. list_all is_digit ds ≡ true)
digits_test = search rules

digits_fold : FoldsDigits digits_value
digits_fold = record { empty = λ n. refl; more = λ n c cs k. let e : 10 * n + (c - 48) ≡ n * 10 + (c - 48) = omega arith in ap (λ m. digits_value m cs) e }

digit_model : IsNumeralModel (λ ds. list_all is_digit ds ≡ true) (digits_value 0)
digit_model = numerals_by_fold (λ ds. list_all is_digit ds ≡ true) digits_test digits_value digits_fold

decimal_value : (n : ℕ) → n < 2 ^ 64 → digits_value 0 (decimal_text n) ≡ n
decimal_value n small = ap (digits_value 0) (decimal_text-decimal n small) ∙ digits_value-decimal digit_model n small

record Numeral (ds : List ℕ) : Type 0 where
  digits : list_all is_digit ds ≡ true
  some : 0 < length ds
  zero_alone : get_or ds 0 0 ≡ 48 → length ds ≡ 1

numeral_parts : (ds : List ℕ) → is_numeral ds ≡ true → Numeral ds
numeral_parts [] h = absurd (cc)
numeral_parts (d ∷ []) h = record { digits = and_from (is_digit d) true h refl; some = omega arith; zero_alone = λ _. refl }
numeral_parts (d ∷ e ∷ ds) h =
    let p = and_parts (nat_lt 48 d && nat_le d 57) (is_digit e && list_all is_digit ds) h in
    let q = and_parts (nat_lt 48 d) (nat_le d 57) p.0 in
    let low : 48 < d = ltb-true 48 d q.0 in
    let first : is_digit d ≡ true = and_from (nat_le 48 d) (nat_le d 57) (le-leb 48 d (omega arith)) q.1 in
    record { digits = and_from (is_digit d) (is_digit e && list_all is_digit ds) first p.1; some = omega arith; zero_alone = λ z. absurd (omega arith) }

value_text : (ds : List ℕ) → is_numeral ds ≡ true → digits_value 0 ds < 2 ^ 64 → decimal_text (digits_value 0 ds) ≡ ds
value_text ds h small =
    let p = numeral_parts ds h in
    decimal_text-decimal (digits_value 0 ds) small ∙ decimal-digits_value digit_model ds p.digits p.some p.zero_alone small

numeral_from : (d : ℕ) (ds : List ℕ) → is_digit d ≡ true → list_all is_digit ds ≡ true → (d ≡ 48 → ds ≡ []) → is_numeral (d ∷ ds) ≡ true
numeral_from d [] first others alone = first
numeral_from d (e ∷ ds) first others alone =
    let p = and_parts (nat_le 48 d) (nat_le d 57) first in
    let l : 48 ≤ d = leb-true 48 d p.0 in
    let n : d ≡ 48 → ⊥ = λ z. some (alone z) in
    let low : 48 < d = omega arith in
    and_from (nat_lt 48 d && nat_le d 57) (is_digit e && list_all is_digit ds) (and_from (nat_lt 48 d) (nat_le d 57) (lt-ltb 48 d low) p.1) others
  where
    some : e ∷ ds ≡ [] → ⊥
    some q = absurd (cc)

decimal_numeral : (n : ℕ) → n < 2 ^ 64 → is_numeral (decimal_text n) ≡ true
decimal_numeral n small =
    let t = decimal_text-IsNumeralText n small in
    ap is_numeral t.parts ∙ numeral_from t.first t.others t.first_is_digit t.others_are_digits t.no_leading_zero

no_sign : (ds : List ℕ) → is_numeral (45 ∷ ds) ≡ false
no_sign [] = refl
no_sign (d ∷ ds) = refl

-- Numbers within the range ------------------------------------------------------------------

digits_grow : (n : ℕ) (ds : List ℕ) → n ≤ digits_value n ds
digits_grow n [] = omega arith
digits_grow n (d ∷ ds) = omega (arith, digits_grow (10 * n + (d - 48)) ds)

digits_within : (n : ℕ) (ds : List ℕ) → list_all is_digit ds ≡ true → digits_value n ds ≤ 2 ^ 60 → with_digits n ds ≡ Some (digits_value n ds)
digits_within n [] a l = refl
digits_within n (d ∷ ds) a l =
    let p = and_parts (is_digit d) (list_all is_digit ds) a in
    let small : 10 * n + (d - 48) ≤ 2 ^ 60 = omega (arith, digits_grow (10 * n + (d - 48)) ds) in
    let one : with_digit n d ≡ Some (10 * n + (d - 48)) =
    ap (λ b. if b then Some (10 * n + (d - 48)) else None) (and_from (is_digit d) (nat_le (10 * n + (d - 48)) (2 ^ 60)) p.0 (le-leb (10 * n + (d - 48)) (2 ^ 60) small)) in
    ap (λ o. digits_then o (λ m. with_digits m ds)) one ∙ digits_within (10 * n + (d - 48)) ds p.1 l

-- digits that go on from n to m
record Reaches (n m : ℕ) (ds : List ℕ) : Type 0 where
  digits : list_all is_digit ds ≡ true
  value : m ≡ digits_value n ds
  small : m ≤ 2 ^ 60

reaches : (n m : ℕ) (ds : List ℕ) → n ≤ 2 ^ 60 → with_digits n ds ≡ Some m → Reaches n m ds
reaches n m [] l e = let same : n ≡ m = cc in record { digits = refl; value = sym same; small = omega arith }
reaches n m (d ∷ ds) l e = go (is_digit d && nat_le (10 * n + (d - 48)) (2 ^ 60)) refl (reaches (10 * n + (d - 48)) m ds) e
  where
    go : (b : Bool) → (is_digit d && nat_le (10 * n + (d - 48)) (2 ^ 60)) ≡ b
        → (10 * n + (d - 48) ≤ 2 ^ 60 → with_digits (10 * n + (d - 48)) ds ≡ Some m → Reaches (10 * n + (d - 48)) m ds)
        → digits_then (if b then Some (10 * n + (d - 48)) else None) (λ k. with_digits k ds) ≡ Some m → Reaches n m (d ∷ ds)
    go true t later e =
        let p = and_parts (is_digit d) (nat_le (10 * n + (d - 48)) (2 ^ 60)) t in
        let r = later (leb-true (10 * n + (d - 48)) (2 ^ 60) p.1) e in
        record { digits = and_from (is_digit d) (list_all is_digit ds) p.0 r.digits; value = r.value; small = r.small }
    go false t later e = absurd (cc)

magnitude_text : (m : ℕ) → m ≤ 2 ^ 60 → magnitude_of (decimal_text m) ≡ Some m
magnitude_text m l =
    let small : m < 2 ^ 64 = omega arith in
    let v = decimal_value m small in
    let within : digits_value 0 (decimal_text m) ≤ 2 ^ 60 = omega arith in
    ap (λ b. if b then with_digits 0 (decimal_text m) else None) (decimal_numeral m small)
    ∙ digits_within 0 (decimal_text m) (digits-decimal_text m small) within ∙ ap Some v

record Spells (m : ℕ) (ds : List ℕ) : Type 0 where
  pub text : decimal_text m ≡ ds
  pub small : m ≤ 2 ^ 60

magnitude_back : (m : ℕ) (ds : List ℕ) → magnitude_of ds ≡ Some m → Spells m ds
magnitude_back m ds e = go (is_numeral ds) refl e
  where
    go : (b : Bool) → is_numeral ds ≡ b → (if b then with_digits 0 ds else None) ≡ Some m → Spells m ds
    go true h e =
        let r = reaches 0 m ds (omega arith) e in
        let v = r.value in
        let s = r.small in
        let small : digits_value 0 ds < 2 ^ 64 = omega arith in
        record { text = ap decimal_text v ∙ value_text ds h small; small = s }
    go false h e = absurd (cc)

-- The number of a word ----------------------------------------------------------------------

unsigned : (ds : List ℕ) → is_numeral ds ≡ true → signed_value ds ≡ pos (digits_value 0 ds)
unsigned [] h = refl
unsigned (b ∷ bs) h = go (nat_eq b 45) refl
  where
    go : (t : Bool) → nat_eq b 45 ≡ t → (if t then negsuc (digits_value 0 bs - 1) else pos (digits_value 0 (b ∷ bs))) ≡ pos (digits_value 0 (b ∷ bs))
    go true e =
        let none : is_numeral (b ∷ bs) ≡ false = ap (λ c. is_numeral (c ∷ bs)) (eqb-true b 45 e) ∙ no_sign bs in
        absurd (cc)
    go false e = refl

number_value : (n : ℤ) → IsFixnum n → signed_value (number_text n) ≡ n
number_value (pos n) f =
    let l : n < 2 ^ 60 = ltb-true n (2 ^ 60) f in
    let small : n < 2 ^ 64 = omega arith in
    unsigned (decimal_text n) (decimal_numeral n small) ∙ ap pos (decimal_value n small)
number_value (negsuc n) f =
    let l : n < 2 ^ 60 = ltb-true n (2 ^ 60) f in
    let v : suc n - 1 ≡ n = omega arith in
    ap (λ m. negsuc (m - 1)) (decimal_value (suc n) (omega arith)) ∙ ap negsuc v

spelled : (n m : ℤ) (word : List ℕ) → m ≡ n → IsFixnum n → number_text n ≡ word → if_spelled m word ≡ Some n
spelled n m word e f s =
    let t : is_same (number_text n) word ≡ true = (bytes_eq-Decides (number_text n) word).1 s in
    ap (λ m. if_spelled m word) e ∙ ap (λ b. if b then Some n else None) (and_from (is_same (number_text n) word) (is_fixnum n) t f)

pub number_is : (word : List ℕ) (n : ℤ) → IsFixnum n → number_text n ≡ word → number_of word ≡ Some n
unfolding number_of
number_is word n f s = spelled n (signed_value word) word (ap signed_value (sym s) ∙ number_value n f) f s

-- a word is the text of a fixnum
pub record SpellsFixnum (n : ℤ) (word : List ℕ) : Type 0 where
  pub fits : IsFixnum n
  pub text : number_text n ≡ word

if_back : (m n : ℤ) (word : List ℕ) → if_spelled m word ≡ Some n → SpellsFixnum n word
if_back m n word = go (is_same (number_text m) word && is_fixnum m) refl
  where
    go : (b : Bool) → (is_same (number_text m) word && is_fixnum m) ≡ b → (if b then Some m else None) ≡ Some n → SpellsFixnum n word
    go true e f =
        let p = and_parts (is_same (number_text m) word) (is_fixnum m) e in
        let same : m ≡ n = cc in
        record { fits = ap is_fixnum (sym same) ∙ p.1; text = ap number_text (sym same) ∙ (bytes_eq-Decides (number_text m) word).0 p.0 }
    go false e f = absurd (cc)

pub number_back : (word : List ℕ) (n : ℤ) → number_of word ≡ Some n → SpellsFixnum n word
unfolding number_of
number_back word n e = if_back (signed_value word) n word e

-- A sign and digits -------------------------------------------------------------------------

below_zero : (n : ℕ) → signed_fixnum true (suc n) ≡ Some (negsuc n)
below_zero n =
    let some : nat_eq (suc n) 0 ≡ false = ne_eqb (suc n) 0 (λ e. omega arith) in
    let one : suc n - 1 ≡ n = omega arith in
    ap (λ b. if b then None else Some (negsuc (suc n - 1))) some ∙ ap (λ m. Some (negsuc m)) one

signed_is : (negative : Bool) (ds : List ℕ) (n : ℤ) → (negative ≡ false → begins_with 45 ds ≡ false) → IsFixnum n → number_text n ≡ signed negative ds
    → with_sign negative (magnitude_of ds) ≡ Some n
signed_is true ds (pos n) plain f s =
    let l : n < 2 ^ 60 = ltb-true n (2 ^ 60) f in
    let yes = decimal_numeral n (omega arith) in
    let no : is_numeral (decimal_text n) ≡ false = ap is_numeral s ∙ no_sign ds in
    absurd (cc)
signed_is true ds (negsuc n) plain f s =
    let l : n < 2 ^ 60 = ltb-true n (2 ^ 60) f in
    let text : decimal_text (suc n) ≡ ds = cc in
    ap (λ t. with_sign true (magnitude_of t)) (sym text) ∙ ap (with_sign true) (magnitude_text (suc n) (omega arith)) ∙ below_zero n
signed_is false ds (pos n) plain f s =
    let l : n < 2 ^ 60 = ltb-true n (2 ^ 60) f in
    ap (λ t. with_sign false (magnitude_of t)) (sym s) ∙ ap (with_sign false) (magnitude_text n (omega arith)) ∙ ap (λ b. if b then Some (pos n) else None) f
signed_is false ds (negsuc n) plain f s =
    let no = plain refl in
    let yes : begins_with 45 ds ≡ true = ap (begins_with 45) (sym s) in
    absurd (cc)

signed_back : (negative : Bool) (m : ℕ) (n : ℤ) → m ≤ 2 ^ 60 → signed_fixnum negative m ≡ Some n → SpellsFixnum n (signed negative (decimal_text m))
signed_back true zero n l e = absurd (cc)
signed_back true (suc m) n l e =
    let b = below_zero m in
    let same : negsuc m ≡ n = cc in
    record { fits = ap is_fixnum (sym same) ∙ lt-ltb m (2 ^ 60) (omega arith); text = ap number_text (sym same) }
signed_back false m n l e = go (nat_lt m (2 ^ 60)) refl e
  where
    go : (b : Bool) → nat_lt m (2 ^ 60) ≡ b → (if b then Some (pos m) else None) ≡ Some n → SpellsFixnum n (decimal_text m)
    go true t e = let same : pos m ≡ n = cc in record { fits = ap is_fixnum (sym same) ∙ t; text = ap number_text (sym same) }
    go false t e = absurd (cc)

sign_back : (negative : Bool) (ds : List ℕ) (n : ℤ) → with_sign negative (magnitude_of ds) ≡ Some n → SpellsFixnum n (signed negative ds)
sign_back negative ds n e = go (magnitude_of ds) refl e
  where
    go : (o : Option ℕ) → magnitude_of ds ≡ o → with_sign negative o ≡ Some n → SpellsFixnum n (signed negative ds)
    go None h e = absurd (cc)
    go (Some m) h e =
        let s = magnitude_back m ds h in
        let b = signed_back negative m n s.small e in
        record { fits = b.fits; text = b.text ∙ ap (signed negative) s.text }

-- what a reader of a sign and digits answers
pub sign_number : (negative : Bool) (ds : List ℕ) → begins_with 45 ds ≡ false → with_sign negative (magnitude_of ds) ≡ number_of (signed negative ds)
sign_number negative ds plain = go (number_of (signed negative ds)) (with_sign negative (magnitude_of ds)) refl refl
  where
    go : (o r : Option ℤ) → number_of (signed negative ds) ≡ o → with_sign negative (magnitude_of ds) ≡ r → r ≡ o
    go (Some n) r e f = let b = number_back (signed negative ds) n e in sym f ∙ signed_is negative ds n (λ _. plain) b.fits b.text
    go None None e f = refl
    go None (Some n) e f =
        let b = sign_back negative ds n f in
        let some = number_is (signed negative ds) n b.fits b.text in
        absurd (cc)

-- where the first digit isn't 0
pub magnitude_by_digits : (left : List ℕ) (b : ℕ) (rest : List ℕ) → left ≡ b ∷ rest → (b ≡ 48 → ⊥) → with_digits 0 left ≡ magnitude_of left
magnitude_by_digits left b rest e n = ap (with_digits 0) e ∙ go (is_numeral (b ∷ rest)) (with_digits 0 (b ∷ rest)) refl refl ∙ ap magnitude_of (sym e)
  where
    go : (t : Bool) (o : Option ℕ) → is_numeral (b ∷ rest) ≡ t → with_digits 0 (b ∷ rest) ≡ o → with_digits 0 (b ∷ rest) ≡ magnitude_of (b ∷ rest)
    go true o h w = sym (ap (λ t. if t then with_digits 0 (b ∷ rest) else None) h)
    go false None h w = w ∙ sym (ap (λ t. if t then with_digits 0 (b ∷ rest) else None) h)
    go false (Some m) h w =
        let r = reaches 0 m (b ∷ rest) (omega arith) w in
        let p = and_parts (is_digit b) (list_all is_digit rest) r.digits in
        let yes = numeral_from b rest p.0 p.1 (λ z. absurd (n z)) in
        absurd (cc)
