-- A string is read back.
use Rattle.std.proofs.Common.{◌≡◌, ℕ, suc, ◌+◌, ◌/◌, ◌%◌, ◌<◌, List, [], ◌∷◌, ◌++◌, length, get_or, refl, sym, ◌∙◌, ap, append_assoc, arith, Fits, w8}
use Rattle.std.specs.Prelude.{Bool, true, false, if◌then◌else◌, ◌||◌, nat_eq, Some, None}
use Rattle.std.proofs.lemmas.Bool.Decides.{nat_tests}
use Rattle.c_tree.specs.Lexical.{Str, tokens, tokens_from, lexeme, emit, string_lexeme, is_plain, is_octal, is_coded, octal_value, escape_at, spelled_at, onto_quoted, spelled_then, quoted_from}
use Rattle.c_write.specs.Adds.{anything, apart, Adds}
use Rattle.c_write.specs.Escapes.{escaped_byte, escaped}
use Rattle.c_write.proofs.Adding.{adds_from, skip_all}

-- One byte ----------------------------------------------------------------------------------

plain_no_quote : (b : ℕ) → is_plain b ≡ true → nat_eq b 34 ≡ false
plain_no_quote b h = grind (arith, nat_tests)

plain_read : (b : ℕ) (rest : List ℕ) → is_plain b ≡ true → quoted_from 0 (b ∷ rest) ≡ onto_quoted b 1 (quoted_from 0 rest)
plain_read b rest h =
    ap (λ t. if t then Some (record { bytes = []; size = 1 }) else spelled_then (spelled_at b rest) (λ skip. quoted_from skip rest)) (plain_no_quote b h)
    ∙ ap (λ t. spelled_then (if t then Some (record { byte = b; size = 1 }) else (if nat_eq b 92 then escape_at rest else None)) (λ skip. quoted_from skip rest)) h

marked_read : (b : ℕ) (rest : List ℕ) → (nat_eq b 34 || nat_eq b 92) ≡ true → quoted_from 0 (92 ∷ b ∷ rest) ≡ onto_quoted b 2 (quoted_from 0 rest)
marked_read b rest h = rw h refl

-- the three digits of a byte
record Octal (b x y z : ℕ) : Type 0 where
  high : is_octal x ≡ true
  no_mark : (nat_eq x 34 || nat_eq x 92) ≡ false
  middle : is_octal y ≡ true
  low : is_octal z ≡ true
  value : octal_value x y z ≡ b

digits_of_byte : (b : ℕ) → b < 256 → Octal b (48 + b / 64) (48 + b / 8 % 8) (48 + b % 8)
digits_of_byte b small =
    let top : b / 64 < 4 = omega arith in
    record {
      high = grind (arith, nat_tests);
      no_mark = grind (arith, nat_tests);
      middle = grind (arith, nat_tests);
      low = grind (arith, nat_tests);
      value = omega arith;
    }

coded_by : (b : ℕ) → b < 256 → is_plain b ≡ false → (nat_eq b 34 || nat_eq b 92) ≡ false → is_coded b ≡ true
coded_by b small plain marked = grind (arith, nat_tests)

octal_read : (b x y z : ℕ) (rest : List ℕ) → Octal b x y z → is_coded b ≡ true → quoted_from 0 (92 ∷ x ∷ y ∷ z ∷ rest) ≡ onto_quoted b 4 (quoted_from 0 rest)
octal_read b x y z rest o coded = rw (o.no_mark, o.high, o.middle, o.low, o.value, coded) refl

escape_by : (marked : Bool) (b : ℕ) (rest : List ℕ) → b < 256 → is_plain b ≡ false → (nat_eq b 34 || nat_eq b 92) ≡ marked
    → quoted_from 0 ((if marked then 92 ∷ b ∷ [] else 92 ∷ (48 + b / 64) ∷ (48 + b / 8 % 8) ∷ (48 + b % 8) ∷ []) ++ rest)
    ≡ onto_quoted b (length (if marked then 92 ∷ b ∷ [] else 92 ∷ (48 + b / 64) ∷ (48 + b / 8 % 8) ∷ (48 + b % 8) ∷ [])) (quoted_from 0 rest)
escape_by true b rest small plain h = marked_read b rest h
escape_by false b rest small plain h =
    octal_read b (48 + b / 64) (48 + b / 8 % 8) (48 + b % 8) rest (digits_of_byte b small) (coded_by b small plain h)

byte_by : (plain : Bool) (b : ℕ) (rest : List ℕ) → b < 256 → is_plain b ≡ plain
    → quoted_from 0 ((if plain then b ∷ [] else (if nat_eq b 34 || nat_eq b 92 then 92 ∷ b ∷ [] else 92 ∷ (48 + b / 64) ∷ (48 + b / 8 % 8) ∷ (48 + b % 8) ∷ [])) ++ rest)
    ≡ onto_quoted b (length (if plain then b ∷ [] else (if nat_eq b 34 || nat_eq b 92 then 92 ∷ b ∷ [] else 92 ∷ (48 + b / 64) ∷ (48 + b / 8 % 8) ∷ (48 + b % 8) ∷ []))) (quoted_from 0 rest)
byte_by true b rest small h = plain_read b rest h
byte_by false b rest small h = escape_by (nat_eq b 34 || nat_eq b 92) b rest small h refl

byte_read : (b : ℕ) (rest : List ℕ) → b < 256 → quoted_from 0 (escaped_byte b ++ rest) ≡ onto_quoted b (length (escaped_byte b)) (quoted_from 0 rest)
byte_read b rest small = byte_by (is_plain b) b rest small refl

-- All of them -------------------------------------------------------------------------------

length_both : (xs ys : List ℕ) (n : ℕ) → length xs + (length ys + n) ≡ length (xs ++ ys) + n
length_both [] ys n = omega arith
length_both (x ∷ xs) ys n = let rest : length xs + (length ys + n) ≡ length (xs ++ ys) + n = length_both xs ys n in omega arith

all_read : (bytes rest : List ℕ) → ((i : ℕ) → get_or bytes i 0 < 256)
    → quoted_from 0 (escaped bytes ++ 34 ∷ rest) ≡ Some (record { bytes = bytes; size = length (escaped bytes) + 1 })
all_read [] rest small = refl
all_read (b ∷ bs) rest small =
    ap (quoted_from 0) (append_assoc (escaped_byte b) (escaped bs) (34 ∷ rest))
    ∙ byte_read b (escaped bs ++ 34 ∷ rest) (small 0)
    ∙ ap (onto_quoted b (length (escaped_byte b))) (all_read bs rest (λ i. small (suc i)))
    ∙ ap (λ n. Some (record { bytes = b ∷ bs; size = n })) (length_both (escaped_byte b) (escaped bs) 1)

lexeme_string : (rest : List ℕ) → lexeme 34 rest ≡ string_lexeme (quoted_from 0 rest)
unfolding lexeme
lexeme_string rest = refl

length_push : (xs : List ℕ) (x : ℕ) → length xs + 1 ≡ length (xs ++ x ∷ [])
length_push [] x = refl
length_push (y ∷ ys) x = let rest : length ys + 1 ≡ length (ys ++ x ∷ []) = length_push ys x in omega arith

string_tokens : (bytes rest : List ℕ) → ((i : ℕ) → get_or bytes i 0 < 256)
    → tokens (34 ∷ escaped bytes ++ 34 ∷ rest) ≡ Str bytes ∷ tokens rest
string_tokens bytes rest small =
    let body = escaped bytes in
    let whole : body ++ 34 ∷ rest ≡ (body ++ 34 ∷ []) ++ rest = sym (append_assoc body (34 ∷ []) rest) in
    ap (λ l. emit l (λ skip. tokens_from skip (body ++ 34 ∷ rest))) (lexeme_string (body ++ 34 ∷ rest) ∙ ap string_lexeme (all_read bytes rest small))
    ∙ ap (λ n. Str bytes ∷ tokens_from n (body ++ 34 ∷ rest)) (length_push body 34)
    ∙ ap (λ t. Str bytes ∷ tokens_from (length (body ++ 34 ∷ [])) t) whole
    ∙ ap (λ ts. Str bytes ∷ ts) (skip_all (body ++ 34 ∷ []) rest)

pub string_adds : (old new bytes : List ℕ) → ((i : ℕ) → get_or bytes i 0 < 256) → new ≡ old ++ (34 ∷ escaped bytes ++ 34 ∷ [])
    → Adds apart anything old new (λ ts. Str bytes ∷ ts)
string_adds old new bytes small e =
    adds_from apart anything old new (34 ∷ escaped bytes ++ 34 ∷ []) (λ ts. Str bytes ∷ ts) e (λ rest may. refl)
    (λ rest may. ap (λ t. tokens (34 ∷ t)) (append_assoc (escaped bytes) (34 ∷ []) rest) ∙ string_tokens bytes rest small)

pub below_256 : (b : ℕ) → Fits w8 b → b < 256
below_256 b fits = omega arith

pub quoted_whole : (out opened body closed text : List ℕ) → opened ≡ out ++ 34 ∷ [] → closed ≡ opened ++ body → text ≡ closed ++ 34 ∷ [] → text ≡ out ++ (34 ∷ body ++ 34 ∷ [])
quoted_whole out opened body closed text e f g = rw (g, f, e) (append_assoc (out ++ 34 ∷ []) body (34 ∷ []) ∙ append_assoc out (34 ∷ []) (body ++ 34 ∷ []))
