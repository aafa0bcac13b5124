-- One byte on in a text, and in a string.
use Rattle.std.proofs.Common.{◌≡◌, ℕ, zero, suc, ◌+◌, ◌-◌, ◌<◌, ◌≤◌, List, [], ◌∷◌, ◌++◌, length, drop, get_or, true, false, if◌then◌else◌, ◌&&◌, nat_eq, Option, Some, None, refl, sym, ap, ◌∙◌, append_assoc, add_assoc, arith}
use Rattle.std.proofs.lemmas.List.{drop_more, length-drop}
use Rattle.std.proofs.Math.ListN.{drop_of_length-le}
use Rattle.c_read.specs.Sequences.{front}
use Rattle.std.specs.List.{prefix_len, take_while}
use Rattle.std.proofs.lemmas.List.Sums.{take_while-cons}
use Rattle.c_tree.specs.Lexical.{Token, Word, is_space, is_word_byte, comment_from, one_more, Quoted, spelled_at, onto_quoted, spelled_then, quoted_from, Gap, Lexed, lexeme, emit, tokens_from, tokens}
use Rattle.c_read.specs.declared.lex.StringByte.{StringByte}
use Rattle.c_read.specs.Scans.{quoted_onto, comment_onto, spelled_of, size_in, size_onto, lexeme_at, word_lexeme}

-- Tokens

skip_all : (skip : ℕ) (bytes : List ℕ) → tokens_from skip bytes ≡ tokens_from 0 (drop skip bytes)
skip_all zero bytes = refl
skip_all (suc k) [] = refl
skip_all (suc k) (b ∷ bs) = skip_all k bs

behind_first : (b : ℕ) (bs : List ℕ) (more : ℕ) → drop (1 + more) (b ∷ bs) ≡ drop more bs
behind_first b bs more = let e : 1 + more ≡ suc more = omega arith in ap (λ n. drop n (b ∷ bs)) e

pub no_longer : (text rest : List ℕ) (n : ℕ) → rest ≡ drop n text → length rest ≤ length text
no_longer text rest n r = omega (arith, ap length r, length-drop n text)

-- the word of a text that begins with a byte of words
pub whole_word : (first : ℕ) (rest : List ℕ) → is_word_byte first ≡ true → take_while is_word_byte (first ∷ rest) ≡ first ∷ take_while is_word_byte rest
whole_word first rest w = take_while-cons is_word_byte first rest ∙ ap (λ b. if b then first ∷ take_while is_word_byte rest else []) w

pub word_front : (first : ℕ) (rest : List ℕ) → is_space first ≡ false → is_word_byte first ≡ true → word_lexeme (first ∷ rest) ≡ lexeme first rest
unfolding lexeme
word_front first rest s w =
    let more : prefix_len is_word_byte (first ∷ rest) - 1 ≡ prefix_len is_word_byte rest = ap (λ b. (if b then 1 + prefix_len is_word_byte rest else 0) - 1) w ∙ omega arith in
    ap (λ bs. Lexed (Word bs) (prefix_len is_word_byte (first ∷ rest) - 1)) (whole_word first rest w) ∙ ap (λ n. Lexed (Word (first ∷ take_while is_word_byte rest)) n) more ∙ rw (s, w) refl

pub over_gap : (text rest : List ℕ) (more : ℕ) → 0 < length text → Gap more ≡ lexeme_at text → rest ≡ drop (1 + more) text → tokens rest ≡ tokens text
over_gap [] rest more h e r = absurd (omega arith)
over_gap (b ∷ bs) rest more h e r = ap tokens (r ∙ behind_first b bs more) ∙ sym (skip_all more bs) ∙ ap (λ s. emit s (λ k. tokens_from k bs)) e

-- over the first byte of a text, where it is a blank
over_blank : (b : ℕ) (bs : List ℕ) → is_space b ≡ true → tokens (b ∷ bs) ≡ tokens bs
unfolding lexeme
over_blank b bs s = rw s refl

-- over a blank at a place
pub blank_on : (text : List ℕ) (i : ℕ) → i < length text → is_space (get_or text i 0) ≡ true → tokens (drop i text) ≡ tokens text → tokens (drop (i + 1) text) ≡ tokens text
blank_on text i within s same = sym (ap tokens (drop_more text i 0 within) ∙ over_blank (get_or text i 0) (drop (i + 1) text) s) ∙ same

-- behind all blanks
pub no_token : (text : List ℕ) (i : ℕ) → length text ≤ i → tokens (drop i text) ≡ tokens text → tokens text ≡ []
no_token text i end same = sym same ∙ ap tokens (drop_of_length-le text end)

pub begins_there : (text rest : List ℕ) (i : ℕ) → i < length text → rest ≡ drop i text → front rest ≡ Some (get_or text i 0)
begins_there text rest i within is = ap front (is ∙ drop_more text i 0 within)

pub whole_front : (text rest : List ℕ) (b : ℕ) → front text ≡ Some b → rest ≡ drop 1 text → text ≡ b ∷ rest
whole_front [] rest b e is = absurd (cc)
whole_front (c ∷ cs) rest b e is = let same : c ≡ b = cc in ap (λ x. x ∷ cs) same ∙ ap (λ xs. b ∷ xs) (sym is)

pub one_token : (text rest : List ℕ) (t : Token) (more : ℕ) → 0 < length text → Lexed t more ≡ lexeme_at text → rest ≡ drop (1 + more) text → t ∷ tokens rest ≡ tokens text
one_token [] rest t more h e r = absurd (omega arith)
one_token (b ∷ bs) rest t more h e r = ap (λ bs. t ∷ tokens bs) (r ∙ behind_first b bs more) ∙ ap (λ ts. t ∷ ts) (sym (skip_all more bs)) ∙ ap (λ s. emit s (λ k. tokens_from k bs)) e

-- Strings

pub quote_skipped : (rest bytes : List ℕ) (i skip : ℕ) → i < length rest → 0 < skip
    → quoted_onto bytes (i + 1 + (skip - 1)) (quoted_from (skip - 1) (drop (i + 1) rest)) ≡ quoted_onto bytes (i + skip) (quoted_from skip (drop i rest))
quote_skipped rest bytes i zero h p = absurd (omega arith)
quote_skipped rest bytes i (suc k) h p =
    let e : suc k - 1 ≡ k = omega arith in
    let n : i + 1 + (suc k - 1) ≡ i + suc k = omega arith in
    ap (λ n. quoted_onto bytes n (quoted_from (suc k - 1) (drop (i + 1) rest))) n
    ∙ ap (λ k'. quoted_onto bytes (i + suc k) (quoted_from k' (drop (i + 1) rest))) e
    ∙ ap (λ bs. quoted_onto bytes (i + suc k) (quoted_from (suc k) bs)) (sym (drop_more rest i 0 h))

onto_onto : (bytes : List ℕ) (n b s : ℕ) (o : Option Quoted) → quoted_onto (bytes ++ b ∷ []) (n + s) o ≡ quoted_onto bytes n (onto_quoted b s o)
onto_onto bytes n b s None = refl
onto_onto bytes n b s (Some q) =
    ap (λ bs. Some (record { bytes = bs; size = n + s + q.size })) (append_assoc bytes (b ∷ []) q.bytes)
    ∙ ap (λ m. Some (record { bytes = bytes ++ b ∷ q.bytes; size = m })) (add_assoc n s q.size)

pub quote_coded : (rest bytes : List ℕ) (i skip : ℕ) (p : StringByte) → i < length rest → skip ≡ 0 → nat_eq (get_or rest i 0) 34 ≡ false
    → spelled_of (Some p) ≡ spelled_at (get_or rest i 0) (drop (i + 1) rest)
    → quoted_onto (bytes ++ p.byte ∷ []) (i + 1 + p.more) (quoted_from p.more (drop (i + 1) rest)) ≡ quoted_onto bytes (i + skip) (quoted_from skip (drop i rest))
quote_coded rest bytes i skip p h z ne e =
    let b = get_or rest i 0 in
    let bs = drop (i + 1) rest in
    let n : i + 1 + p.more ≡ i + skip + (p.more + 1) = omega arith in
    let m : p.more ≡ p.more + 1 - 1 = omega arith in
    ap (λ n. quoted_onto (bytes ++ p.byte ∷ []) n (quoted_from p.more bs)) n
    ∙ onto_onto bytes (i + skip) p.byte (p.more + 1) (quoted_from p.more bs)
    ∙ ap (λ k. quoted_onto bytes (i + skip) (onto_quoted p.byte (p.more + 1) (quoted_from k bs))) m
    ∙ ap (λ o. quoted_onto bytes (i + skip) (spelled_then o (λ k. quoted_from k bs))) e
    ∙ ap (λ c. quoted_onto bytes (i + skip) (if c then Some (record { bytes = []; size = 1 }) else spelled_then (spelled_at b bs) (λ k. quoted_from k bs))) (sym ne)
    ∙ ap (λ ts. quoted_onto bytes (i + skip) (quoted_from 0 ts)) (sym (drop_more rest i 0 h))
    ∙ ap (λ k. quoted_onto bytes (i + skip) (quoted_from k (drop i rest))) (sym z)

size_of_onto : (bytes : List ℕ) (n : ℕ) (o : Option Quoted) → size_in (quoted_onto bytes n o) ≡ size_onto n o
size_of_onto bytes n None = refl
size_of_onto bytes n (Some q) = refl

pub size_starts : (o : Option Quoted) → size_onto 0 o ≡ size_in o
size_starts None = refl
size_starts (Some q) = let e : 0 + q.size ≡ q.size = omega arith in ap Some e

pub size_skipped : (rest : List ℕ) (i skip : ℕ) → i < length rest → 0 < skip
    → size_onto (i + 1 + (skip - 1)) (quoted_from (skip - 1) (drop (i + 1) rest)) ≡ size_onto (i + skip) (quoted_from skip (drop i rest))
size_skipped rest i skip h p =
    sym (size_of_onto [] (i + 1 + (skip - 1)) (quoted_from (skip - 1) (drop (i + 1) rest))) ∙ ap size_in (quote_skipped rest [] i skip h p)
    ∙ size_of_onto [] (i + skip) (quoted_from skip (drop i rest))

pub size_coded : (rest : List ℕ) (i skip : ℕ) (p : StringByte) → i < length rest → skip ≡ 0 → nat_eq (get_or rest i 0) 34 ≡ false
    → spelled_of (Some p) ≡ spelled_at (get_or rest i 0) (drop (i + 1) rest)
    → size_onto (i + 1 + p.more) (quoted_from p.more (drop (i + 1) rest)) ≡ size_onto (i + skip) (quoted_from skip (drop i rest))
size_coded rest i skip p h z ne e =
    sym (size_of_onto (p.byte ∷ []) (i + 1 + p.more) (quoted_from p.more (drop (i + 1) rest))) ∙ ap size_in (quote_coded rest [] i skip p h z ne e)
    ∙ size_of_onto [] (i + skip) (quoted_from skip (drop i rest))

-- Comments

onto_more : (n : ℕ) (o : Option ℕ) → comment_onto (n + 1) o ≡ comment_onto n (one_more o)
onto_more n None = refl
onto_more n (Some m) = ap Some (omega arith)

pub comment_on : (rest : List ℕ) (i last : ℕ) → i < length rest → (nat_eq last 42 && nat_eq (get_or rest i 0) 47) ≡ false
    → comment_onto (i + 1) (comment_from (get_or rest i 0) (drop (i + 1) rest)) ≡ comment_onto i (comment_from last (drop i rest))
comment_on rest i last h e =
    let b = get_or rest i 0 in
    let bs = drop (i + 1) rest in
    onto_more i (comment_from b bs)
    ∙ ap (λ c. comment_onto i (if c then Some 1 else one_more (comment_from b bs))) (sym e)
    ∙ ap (λ ts. comment_onto i (comment_from last ts)) (sym (drop_more rest i 0 h))

pub comment_ends : (rest : List ℕ) (i last : ℕ) → i < length rest → (nat_eq last 42 && nat_eq (get_or rest i 0) 47) ≡ true
    → comment_onto i (comment_from last (drop i rest)) ≡ Some (i + 1)
comment_ends rest i last h e =
    let b = get_or rest i 0 in
    let bs = drop (i + 1) rest in
    ap (λ ts. comment_onto i (comment_from last ts)) (drop_more rest i 0 h)
    ∙ ap (λ c. comment_onto i (if c then Some 1 else one_more (comment_from b bs))) e
