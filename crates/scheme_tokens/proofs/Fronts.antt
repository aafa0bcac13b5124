-- What stands at the front of a text.
use Rattle.std.proofs.Common.{◌≡◌, ℕ, ℤ, ◌+◌, ◌-◌, ◌<◌, ◌≤◌, Bool, true, false, if◌then◌else◌, nat_eq, List, [], ◌∷◌, length, drop, take, get_or, Option, Some, None, Result, Ok, Err, IfOk, refl, sym, ap, ◌∙◌, arith}
use Rattle.std.proofs.Math.Numerals.{one-add}
use Rattle.std.proofs.lemmas.List.{take_all, length-drop}
use Rattle.std.specs.List.{prefix_len, take_while}
use Rattle.scheme_data.specs.Symbols.{is_symbol_byte, is_dot, has_symbol_form}
use Rattle.scheme_data.specs.declared.text.OutOfMemory.{OutOfMemory}
use Rattle.scheme_tokens.specs.declared.lex.Lexeme.{Lexeme}
use Rattle.scheme_tokens.specs.declared.lex.Lexeme.TheVariants as lexed
use Rattle.scheme_tokens.specs.declared.token.Atom.TheVariants as atom
use Rattle.scheme_tokens.specs.declared.token.Word.{Word}
use Rattle.scheme_tokens.specs.declared.token.Word.TheVariants as word
use Rattle.scheme_tokens.specs.Comments.{not_newline}
use Rattle.scheme_tokens.specs.Hashes.{constant_word, character_word, character_lexeme, block_lexeme, hash_lexeme}
use Rattle.scheme_tokens.specs.Lexemes.{lexeme, mark_word}
use Rattle.scheme_tokens.specs.Strings.{string_of, string_lexeme, spelled_len, unescaped}
use Rattle.scheme_tokens.specs.Words.{is_space, number_in, number_word, no_number, number_or_other, word_of}

-- `&bytes[i..]`
pub rest_is : (i : ℕ) (bytes : List ℕ) → take (length bytes - i) (drop i bytes) ≡ drop i bytes
rest_is i bytes = take_all (length bytes - i) (drop i bytes) (omega (arith, length-drop i bytes))

-- Words.

some_number : (w : List ℕ) (o : Option ℤ) (x : Word) → Some x ≡ number_word o → x ≡ number_or_other w o
some_number w None x e = absurd (cc)
some_number w (Some n) x e = cc

pub is_number : (w : List ℕ) (x : Word) → Some x ≡ number_word (number_in w) → x ≡ word_of w
unfolding word_of
is_number w x e = some_number w (number_in w) x e

other_than_number : (w : List ℕ) (o : Option ℤ) → None ≡ number_word o → no_number w ≡ number_or_other w o
other_than_number w None e = refl
other_than_number w (Some n) e = absurd (cc)

pub is_the_dot : (w : List ℕ) → None ≡ number_word (number_in w) → is_dot w ≡ true → word.Dot ≡ word_of w
unfolding word_of
is_the_dot w e d =
    sym (ap (λ (t : Bool). if t then word.Dot else (if has_symbol_form w then word.Atom (atom.Sym w) else word.Bad)) d) ∙ other_than_number w (number_in w) e

pub is_name : (w v : List ℕ) → None ≡ number_word (number_in w) → is_dot w ≡ false → has_symbol_form w ≡ true → v ≡ w → word.Atom (atom.Sym v) ≡ word_of w
unfolding word_of
is_name w v e d s h =
    ap (λ v. word.Atom (atom.Sym v)) h
    ∙ sym (ap (λ (t : Bool). if t then word.Atom (atom.Sym w) else word.Bad) s)
    ∙ sym (ap (λ (t : Bool). if t then word.Dot else (if has_symbol_form w then word.Atom (atom.Sym w) else word.Bad)) d) ∙ other_than_number w (number_in w) e

pub is_bad : (w : List ℕ) → None ≡ number_word (number_in w) → is_dot w ≡ false → has_symbol_form w ≡ false → word.Bad ≡ word_of w
unfolding word_of
is_bad w e d s =
    sym (ap (λ (t : Bool). if t then word.Atom (atom.Sym w) else word.Bad) s)
    ∙ sym (ap (λ (t : Bool). if t then word.Dot else (if has_symbol_form w then word.Atom (atom.Sym w) else word.Bad)) d) ∙ other_than_number w (number_in w) e

-- Strings.

pub no_string : (rest : List ℕ) → None ≡ spelled_len false rest → lexed.Token word.Bad 0 ≡ string_lexeme rest
unfolding string_lexeme
no_string rest e = ap (string_of rest) e

pub is_string : (rest text : List ℕ) (n : ℕ) → Some n ≡ spelled_len false rest → text ≡ unescaped false (take n rest)
    → lexed.Token (word.Atom (atom.Str text)) (n + 1) ≡ string_lexeme rest
unfolding string_lexeme
is_string rest text n e t = ap (λ text. lexed.Token (word.Atom (atom.Str text)) (n + 1)) t ∙ ap (string_of rest) e

-- What begins with `#`.

pub no_character : (rest : List ℕ) → length rest < 1 → lexed.Token word.Bad 0 ≡ character_lexeme rest
unfolding character_lexeme
no_character [] h = refl
no_character (b ∷ bs) h = absurd (omega arith)

pub is_character : (rest : List ℕ) (n : ℕ) (w : Word) → 1 ≤ length rest → n ≡ prefix_len is_symbol_byte (drop 1 rest) → w ≡ character_word (take (1 + n) rest)
    → lexed.Token w (2 + n) ≡ character_lexeme rest
unfolding character_lexeme
is_character [] n w l e d = absurd (omega arith)
is_character (b ∷ bs) n w l e d =
    let text : take (1 + n) (b ∷ bs) ≡ b ∷ take_while is_symbol_byte bs = rw one-add (ap (λ n. b ∷ take n bs) e) in
    let same : w ≡ character_word (b ∷ take_while is_symbol_byte bs) = d ∙ ap character_word text in
    ap (λ w. lexed.Token w (2 + n)) same ∙ ap (λ n. lexed.Token (character_word (b ∷ take_while is_symbol_byte bs)) (2 + n)) e

pub no_hash : (rest : List ℕ) → length rest < 1 → lexed.Token word.Bad 0 ≡ hash_lexeme rest
unfolding hash_lexeme
no_hash [] h = refl
no_hash (b ∷ bs) h = absurd (omega arith)

pub hash_open : (rest : List ℕ) → 1 ≤ length rest → get_or rest 0 0 ≡ 40 → lexed.Token word.OpenVector 1 ≡ hash_lexeme rest
unfolding hash_lexeme
hash_open [] l e = absurd (omega arith)
hash_open (b ∷ bs) l e = rw e refl

pub hash_block : (rest : List ℕ) (x : Lexeme) → 1 ≤ length rest → get_or rest 0 0 ≡ 124 → x ≡ block_lexeme (drop 1 rest) → x ≡ hash_lexeme rest
unfolding hash_lexeme
hash_block [] x l e h = absurd (omega arith)
hash_block (b ∷ bs) x l e h = rw e h

pub hash_character : (rest : List ℕ) (x : Lexeme) → 1 ≤ length rest → get_or rest 0 0 ≡ 92 → x ≡ character_lexeme (drop 1 rest) → x ≡ hash_lexeme rest
unfolding hash_lexeme
hash_character [] x l e h = absurd (omega arith)
hash_character (b ∷ bs) x l e h = rw e h

pub hash_constant : (rest : List ℕ) (n : ℕ) (w : Word) → 1 ≤ length rest → nat_eq (get_or rest 0 0) 40 ≡ false → nat_eq (get_or rest 0 0) 124 ≡ false → nat_eq (get_or rest 0 0) 92 ≡ false
    → n ≡ prefix_len is_symbol_byte rest → w ≡ constant_word (take n rest) → lexed.Token w n ≡ hash_lexeme rest
unfolding hash_lexeme
hash_constant [] n w l o v c e d = absurd (omega arith)
hash_constant (b ∷ bs) n w l o v c e d =
    let same : w ≡ constant_word (take_while is_symbol_byte (b ∷ bs)) = d ∙ ap (λ n. constant_word (take n (b ∷ bs))) e in
    rw (o, v, c) (ap (λ w. lexed.Token w n) same ∙ ap (lexed.Token (constant_word (take_while is_symbol_byte (b ∷ bs)))) e)

-- Lexemes.

pub lexeme_none : (tail : List ℕ) → length tail < 1 → lexed.Gap 0 ≡ lexeme tail
unfolding lexeme
lexeme_none [] l = refl
lexeme_none (b ∷ bs) l = absurd (omega arith)

pub lexeme_space : (tail : List ℕ) → 1 ≤ length tail → is_space (get_or tail 0 0) ≡ true → lexed.Gap 0 ≡ lexeme tail
unfolding lexeme
lexeme_space [] l s = refl
lexeme_space (b ∷ bs) l s = rw s refl

pub lexeme_word : (tail : List ℕ) (n : ℕ) (w : Word) → 1 ≤ length tail
    → is_space (get_or tail 0 0) ≡ false → is_symbol_byte (get_or tail 0 0) ≡ true
    → n ≡ prefix_len is_symbol_byte (drop 1 tail) → w ≡ word_of (take (1 + n) tail) → lexed.Token w n ≡ lexeme tail
unfolding lexeme
lexeme_word [] n w l s y e d = absurd (omega arith)
lexeme_word (b ∷ bs) n w l s y e d =
    let text : take (1 + n) (b ∷ bs) ≡ b ∷ take_while is_symbol_byte bs = rw one-add (ap (λ n. b ∷ take n bs) e) in
    let same : w ≡ word_of (b ∷ take_while is_symbol_byte bs) = d ∙ ap word_of text in
    rw (s, y) (ap (λ w. lexed.Token w n) same ∙ ap (lexed.Token (word_of (b ∷ take_while is_symbol_byte bs))) e)

pub lexeme_line : (tail : List ℕ) (n : ℕ) → 1 ≤ length tail → get_or tail 0 0 ≡ 59 → n ≡ prefix_len not_newline (drop 1 tail) → lexed.Gap n ≡ lexeme tail
unfolding lexeme
lexeme_line [] n l e h = absurd (omega arith)
lexeme_line (b ∷ bs) n l e h = rw e (ap lexed.Gap h)

string_front : (tail : List ℕ) → 1 ≤ length tail → get_or tail 0 0 ≡ 34 → string_lexeme (drop 1 tail) ≡ lexeme tail
unfolding lexeme
string_front [] l e = absurd (omega arith)
string_front (b ∷ bs) l e = rw e refl

pub lexeme_string : (tail : List ℕ) (r : Result Lexeme OutOfMemory) → 1 ≤ length tail → get_or tail 0 0 ≡ 34 → IfOk r (λ l. l ≡ string_lexeme (drop 1 tail)) → IfOk r (λ l. l ≡ lexeme tail)
lexeme_string tail (Ok x) l e h = h ∙ string_front tail l e
lexeme_string tail (Err x) l e h = tt

pub lexeme_hash : (tail : List ℕ) (x : Lexeme) → 1 ≤ length tail → get_or tail 0 0 ≡ 35 → x ≡ hash_lexeme (drop 1 tail) → x ≡ lexeme tail
unfolding lexeme
lexeme_hash [] x l e h = absurd (omega arith)
lexeme_hash (b ∷ bs) x l e h = rw e h

pub lexeme_mark : (tail : List ℕ) (w : Word) → 1 ≤ length tail → is_space (get_or tail 0 0) ≡ false → is_symbol_byte (get_or tail 0 0) ≡ false
    → nat_eq (get_or tail 0 0) 59 ≡ false → nat_eq (get_or tail 0 0) 34 ≡ false → nat_eq (get_or tail 0 0) 35 ≡ false
    → w ≡ mark_word (get_or tail 0 0) → lexed.Token w 0 ≡ lexeme tail
unfolding lexeme
lexeme_mark [] w l s y c q h e = absurd (omega arith)
lexeme_mark (b ∷ bs) w l s y c q h e = rw (s, y, c, q, h) (ap (λ w. lexed.Token w 0) e)
