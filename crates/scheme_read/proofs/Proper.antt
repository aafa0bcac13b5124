-- What is read is proper: each token is, and so is what is made of them.
use Rattle.std.proofs.Common.{◌≡◌, ℕ, zero, suc, ℤ, ◌+◌, ◌<◌, Bool, true, false, ◌&&◌, if◌then◌else◌, nat_eq, List, [], ◌∷◌, ◌++◌, take, get_or, Option, Some, None, Result, Ok, Err, IfOk, IsTrue, refl, sym, subst, ◌∙◌, codes, arith}
use Rattle.std.proofs.Math.Numerals.{one-add}
use Rattle.std.proofs.lemmas.Bool.Decides.{nat_tests}
use Rattle.std.proofs.lemmas.List.Folds.{list_all-append}
use Rattle.std.specs.List.{prefix_len, take_while, list_all}
use Rattle.scheme_data.specs.Data.{Plain, Plains, Number, Character, Truth, Unspecified, String, Symbol, Listed, Dotted, Vector, none, more, plain, plain_all, is_byte, AreSome, IsProper, AreProper}
use Rattle.scheme_data.specs.Fixnum.{is_fixnum}
use Rattle.scheme_data.specs.Symbols.{IsSymbol, is_symbol_byte, is_dot, has_symbol_form}
use Rattle.scheme_data.proofs.SymbolTests.{symbol_of_form}
use Rattle.scheme_data.specs.declared.datum.Place.{Place}
use Rattle.scheme_data.specs.declared.datum.Datum.{Datum}
use Rattle.scheme_data.specs.declared.datum.Datum.TheVariants as datum
use Rattle.scheme_data.specs.Names.{is_same}
use Rattle.scheme_tokens.specs.declared.lex.Lexeme.{Lexeme}
use Rattle.scheme_tokens.specs.declared.lex.Lexeme.TheVariants as lexed
use Rattle.scheme_tokens.specs.declared.token.Atom.{Atom}
use Rattle.scheme_tokens.specs.declared.token.Atom.TheVariants as atom
use Rattle.scheme_tokens.specs.declared.token.Token.{Token}
use Rattle.scheme_tokens.specs.declared.token.Word.{Word}
use Rattle.scheme_tokens.specs.declared.token.Word.TheVariants as word
use Rattle.scheme_tokens.specs.Comments.{not_newline, comment_len}
use Rattle.scheme_tokens.specs.Hashes.{constant_word, named_byte, byte_word, character_word, character_lexeme, comment_of, block_lexeme, constant_lexeme, hash_lexeme}
use Rattle.scheme_tokens.specs.Lexemes.{lexeme, mark_word}
use Rattle.scheme_data.specs.Places.{after, start}
use Rattle.scheme_tokens.specs.Strings.{escaped_byte, is_escaping, part, spelled_len, unescaped, string_of, string_lexeme}
use Rattle.scheme_tokens.specs.Tokens.{token, emit, tokens_from}
use Rattle.scheme_tokens.specs.Words.{is_space, number_in, number_or_other, word_of}
use Rattle.scheme_read.specs.declared.error.ReadErr.{ReadErr}
use Rattle.scheme_read.specs.Answers.{IsSource, Reads}
use Rattle.scheme_read.specs.Grammar.{Phrase, Phrases, Simple, Parens, DottedParens, HashParens, Quoted, Nothing, Then, quoted, spell, spells, value, values}
use Rattle.scheme_read.proofs.Views.{plain_list, plain_vector, plain_symbol, plain_simple, plain_joined, simple_plain, joined_plain, append_plains}

abbrev IsProperAtom : Atom → Type 0
IsProperAtom a = IsProper (simple_plain a)

abbrev IsProperWord : Word → Type 0
IsProperWord word.Open = Unit {0}
IsProperWord word.OpenVector = Unit {0}
IsProperWord word.Close = Unit {0}
IsProperWord word.Quote = Unit {0}
IsProperWord word.Dot = Unit {0}
IsProperWord (word.Atom a) = IsProperAtom a
IsProperWord word.Bad = Unit {0}

abbrev IsProperLexeme : Lexeme → Type 0
IsProperLexeme (lexed.Gap n) = Unit {0}
IsProperLexeme (lexed.Token w n) = IsProperWord w

abbrev AreProperTokens : List Token → Type 0
AreProperTokens [] = Unit {0}
AreProperTokens (t ∷ ts) = IsProperWord t.word × AreProperTokens ts

-- Bytes.

abbrev AreBytes : List ℕ → Type 0
AreBytes bs = list_all is_byte bs ≡ true

both : (a b : Bool) → a ≡ true → b ≡ true → (a && b) ≡ true
both true true e f = refl
both true false e f = absurd (cc)
both false b e f = absurd (cc)

first_of_two : (a b : Bool) → (a && b) ≡ true → a ≡ true
first_of_two true b e = refl
first_of_two false b e = absurd (cc)

second_of_two : (a b : Bool) → (a && b) ≡ true → b ≡ true
second_of_two true b e = e
second_of_two false b e = absurd (cc)

pub are_bytes : (bs : List ℕ) → ((i : ℕ) → get_or bs i 0 < 256) → AreBytes bs
are_bytes [] h = refl
are_bytes (b ∷ bs) h =
    let first : is_byte b ≡ true = let k : b < 256 = h 0 in grind (arith, nat_tests) in
    both (is_byte b) _ first (are_bytes bs (λ i. h (suc i)))

bytes_taken : (n : ℕ) (bs : List ℕ) → AreBytes bs → AreBytes (take n bs)
bytes_taken zero bs h = refl
bytes_taken (suc n) [] h = refl
bytes_taken (suc n) (b ∷ bs) h = both (is_byte b) _ (first_of_two (is_byte b) _ h) (bytes_taken n bs (second_of_two (is_byte b) _ h))

bytes_append : (bs cs : List ℕ) → AreBytes bs → AreBytes cs → AreBytes (bs ++ cs)
bytes_append bs cs h k = list_all-append is_byte bs cs ∙ both _ _ h k

escaped_bytes : (b : ℕ) → is_byte b ≡ true → is_byte (escaped_byte b) ≡ true
escaped_bytes b h = go (nat_eq b 110) (nat_eq b 116)
  where
    go : (n t : Bool) → is_byte (if n then 10 else (if t then 9 else b)) ≡ true
    go true t = refl
    go false true = refl
    go false false = h

plain_part : (b : ℕ) (t : Bool) → is_byte b ≡ true → AreBytes (if t then [] else b ∷ [])
plain_part b true h = refl
plain_part b false h = both (is_byte b) true h refl

part_bytes : (escaped : Bool) (b : ℕ) → is_byte b ≡ true → AreBytes (part escaped b)
part_bytes true b h = both (is_byte (escaped_byte b)) true (escaped_bytes b h) refl
part_bytes false b h = plain_part b (nat_eq b 92) h

unescaped_bytes : (escaped : Bool) (bs : List ℕ) → AreBytes bs → AreBytes (unescaped escaped bs)
unescaped_bytes escaped [] h = refl
unescaped_bytes escaped (b ∷ bs) h =
    bytes_append (part escaped b) _ (part_bytes escaped b (first_of_two (is_byte b) _ h)) (unescaped_bytes (is_escaping escaped b) bs (second_of_two (is_byte b) _ h))

-- Words.

proper_fixnum : (n : ℤ) (b : Bool) → is_fixnum n ≡ b → IsProperWord (if b then word.Atom (atom.Int n) else word.Bad)
proper_fixnum n true e = e
proper_fixnum n false e = tt

proper_symbol : (w : List ℕ) (b : Bool) → has_symbol_form w ≡ b → IsTrue (list_all is_symbol_byte w) → IsProperWord (if b then word.Atom (atom.Sym w) else word.Bad)
proper_symbol w true e h = symbol_of_form w e h
proper_symbol w false e h = tt

proper_dot : (w : List ℕ) (b : Bool) → IsTrue (list_all is_symbol_byte w) → IsProperWord (if b then word.Dot else (if has_symbol_form w then word.Atom (atom.Sym w) else word.Bad))
proper_dot w true h = tt
proper_dot w false h = proper_symbol w (has_symbol_form w) refl h

proper_or : (w : List ℕ) (o : Option ℤ) → IsTrue (list_all is_symbol_byte w) → IsProperWord (number_or_other w o)
proper_or w None h = proper_dot w (is_dot w) h
proper_or w (Some n) h = proper_fixnum n (is_fixnum n) refl

proper_word : (w : List ℕ) → IsTrue (list_all is_symbol_byte w) → IsProperWord (word_of w)
unfolding word_of
proper_word w h = proper_or w (number_in w) h

all_taken : (p : ℕ → Bool) (bs : List ℕ) → list_all p (take_while p bs) ≡ true
all_taken p [] = refl
all_taken p (b ∷ bs) = first_taken (all_taken p bs) (p b) refl
  where
    first_taken : list_all p (take_while p bs) ≡ true → (t : Bool) → p b ≡ t → list_all p (take (if t then 1 + prefix_len p bs else 0) (b ∷ bs)) ≡ true
    first_taken h true e = rw (one-add, e) h
    first_taken h false e = refl

-- Lexemes.

proper_string : (rest : List ℕ) (o : Option ℕ) → AreBytes rest → IsProperLexeme (string_of rest o)
proper_string rest None h = tt
proper_string rest (Some n) h = unescaped_bytes false (take n rest) (bytes_taken n rest h)

string_front : (rest : List ℕ) → AreBytes rest → IsProperLexeme (string_lexeme rest)
unfolding string_lexeme
string_front rest h = proper_string rest (spelled_len false rest) h

proper_named : (name : List ℕ) → IsProperWord (byte_word (named_byte name))
proper_named name = go (is_same name (codes "space")) (is_same name (codes "newline")) (is_same name (codes "tab")) (is_same name (codes "return")) (is_same name (codes "null"))
  where
    go : (s n t r z : Bool) → IsProperWord (byte_word (if s then Some 32 else (if n then Some 10 else (if t then Some 9 else (if r then Some 13 else (if z then Some 0 else None))))))
    go true n t r z = refl
    go false true t r z = refl
    go false false true r z = refl
    go false false false true z = refl
    go false false false false true = refl
    go false false false false false = tt

proper_character : (b : ℕ) (name : List ℕ) → is_byte b ≡ true → IsProperWord (character_word (b ∷ name))
proper_character b [] h = h
proper_character b (c ∷ name) h = proper_named (b ∷ c ∷ name)

character_front : (rest : List ℕ) → AreBytes rest → IsProperLexeme (character_lexeme rest)
unfolding character_lexeme
character_front [] h = tt
character_front (b ∷ bs) h = proper_character b (take_while is_symbol_byte bs) (first_of_two (is_byte b) _ h)

proper_constant : (name : List ℕ) → IsProperWord (constant_word name)
proper_constant name = go (is_same name (codes "t")) (is_same name (codes "f")) (is_same name (codes "unspecified"))
  where
    go : (t f u : Bool) → IsProperWord (if t then word.Atom (atom.Bool true) else (if f then word.Atom (atom.Bool false) else (if u then word.Atom atom.Unspec else word.Bad)))
    go true f u = tt
    go false true u = tt
    go false false true = tt
    go false false false = tt

proper_comment : (o : Option ℕ) → IsProperLexeme (comment_of o)
proper_comment None = tt
proper_comment (Some n) = tt

hash_front : (rest : List ℕ) → AreBytes rest → IsProperLexeme (hash_lexeme rest)
unfolding hash_lexeme
hash_front [] h = tt
hash_front (b ∷ bs) h = go (nat_eq b 40) (nat_eq b 124) (nat_eq b 92)
  where
    go : (o v c : Bool) → IsProperLexeme (if o then lexed.Token word.OpenVector 1 else (if v then block_lexeme bs else (if c then character_lexeme bs else constant_lexeme (b ∷ bs))))
    go true v c = tt
    go false true c = proper_comment (comment_len 0 0 bs)
    go false false true = character_front bs (second_of_two (is_byte b) _ h)
    go false false false = proper_constant (take_while is_symbol_byte (b ∷ bs))

proper_mark : (b : ℕ) → IsProperWord (mark_word b)
proper_mark b = go (nat_eq b 40) (nat_eq b 41) (nat_eq b 39)
  where
    go : (o c q : Bool) → IsProperWord (if o then word.Open else (if c then word.Close else (if q then word.Quote else word.Bad)))
    go true c q = tt
    go false true q = tt
    go false false true = tt
    go false false false = tt

lexeme_front : (b : ℕ) (bs : List ℕ) → AreBytes bs → IsProperLexeme (lexeme (b ∷ bs))
unfolding lexeme
lexeme_front b bs h = go (is_space b) (is_symbol_byte b) (nat_eq b 59) (nat_eq b 34) (nat_eq b 35) refl
  where
    go : (s y l q o : Bool) → is_symbol_byte b ≡ y → IsProperLexeme (if s then lexed.Gap 0
        else (if y then lexed.Token (word_of (b ∷ take_while is_symbol_byte bs)) (prefix_len is_symbol_byte bs)
        else (if l then lexed.Gap (prefix_len not_newline bs)
        else (if q then string_lexeme bs else (if o then hash_lexeme bs else lexed.Token (mark_word b) 0)))))
    go true y l q o e = tt
    go false true l q o e = proper_word (b ∷ take_while is_symbol_byte bs) (rw e (all_taken is_symbol_byte bs))
    go false false true q o e = tt
    go false false false true o e = string_front bs h
    go false false false false true e = hash_front bs h
    go false false false false false e = proper_mark b

-- Tokens.

emit_proper : (at : Place) (x : Lexeme) (next : ℕ → List Token) → IsProperLexeme x → ((n : ℕ) → AreProperTokens (next n)) → AreProperTokens (emit at x next)
emit_proper at (lexed.Gap n) next h k = k n
emit_proper at (lexed.Token w n) next h k = (h, k n)

tokens_proper : (bs : List ℕ) (skip : ℕ) (at : Place) → AreBytes bs → AreProperTokens (tokens_from skip at bs)
tokens_proper [] zero at h = tt
tokens_proper [] (suc skip) at h = tt
tokens_proper (b ∷ bs) (suc skip) at h = tokens_proper bs skip (after at b) (second_of_two (is_byte b) _ h)
tokens_proper (b ∷ bs) zero at h =
    let rest : AreBytes bs = second_of_two (is_byte b) _ h in
    emit_proper at (lexeme (b ∷ bs)) _ (lexeme_front b bs rest) (λ n. tokens_proper bs n (after at b) rest)

-- Phrases.

proper_append : (ds es : Plains) → AreProper ds → AreProper es → AreProper (append_plains ds es)
proper_append none es h k = k
proper_append (more d ds) es h k = (h.0, proper_append ds es h.1 k)

some_append : (ds es : Plains) → AreSome ds → AreSome (append_plains ds es)
some_append none es h = absurd h
some_append (more d ds) es h = tt

proper_joined : (ds : Plains) (tail : Plain) → AreSome ds → AreProper ds → IsProper tail → IsProper (joined_plain ds tail)
proper_joined ds (Number n) s h k = (s, h, tt, k)
proper_joined ds (Character b) s h k = (s, h, tt, k)
proper_joined ds (Truth t) s h k = (s, h, tt, k)
proper_joined ds Unspecified s h k = (s, h, tt, k)
proper_joined ds (String text) s h k = (s, h, tt, k)
proper_joined ds (Symbol name mark) s h k = (s, h, tt, k)
proper_joined ds (Listed es) s h k = proper_append ds es h k
proper_joined ds (Dotted es last) s h k = (some_append ds es s, proper_append ds es h k.1, k.2, k.3)
proper_joined ds (Vector es) s h k = (s, h, tt, k)

quote_is_name : IsSymbol (codes "quote")
quote_is_name = record { some = omega arith; short = omega arith; bytes = refl; front = refl }

proper_quoted : (at : Place) (d : Datum) → IsProper (plain d) → IsProper (plain (quoted at d))
proper_quoted at d h =
    let name : IsProper (plain (datum.Sym at (codes "quote") 0)) = subst IsProper (sym (plain_symbol at (codes "quote") 0)) quote_is_name in
    subst IsProper (sym (plain_list at (datum.Sym at (codes "quote") 0 ∷ d ∷ []))) (name, (h, tt))

mutual
  proper_phrase : (p : Phrase) (rest : List Token) → AreProperTokens (spell p rest) → IsProper (plain (value p)) × AreProperTokens rest
  proper_phrase (Simple at a) rest h = (subst IsProper (sym (plain_simple at a)) h.0, h.1)
  proper_phrase (Parens at ps close) rest h =
      let i = proper_phrases ps (token close word.Close ∷ rest) h.1 in
      (subst IsProper (sym (plain_list at (values ps))) i.0, i.1.1)
  proper_phrase (DottedParens at p ps dot q close) rest h =
      let i = proper_phrase p _ h.1 in
      let j = proper_phrases ps _ i.1 in
      let k = proper_phrase q _ j.1.1 in
      (subst IsProper (sym (plain_joined at (value p ∷ values ps) (value q))) (proper_joined (plain_all (value p ∷ values ps)) (plain (value q)) tt (i.0, j.0) k.0), k.1.1)
  proper_phrase (HashParens at ps close) rest h =
      let i = proper_phrases ps (token close word.Close ∷ rest) h.1 in
      (subst IsProper (sym (plain_vector at (values ps))) i.0, i.1.1)
  proper_phrase (Quoted at p) rest h =
      let i = proper_phrase p rest h.1 in
      (proper_quoted at (value p) i.0, i.1)

  proper_phrases : (ps : Phrases) (rest : List Token) → AreProperTokens (spells ps rest) → AreProper (plain_all (values ps)) × AreProperTokens rest
  proper_phrases Nothing rest h = (tt, h)
  proper_phrases (Then p ps) rest h =
      let i = proper_phrase p (spells ps rest) h in
      let j = proper_phrases ps rest i.1 in
      ((i.0, j.0), j.1)

source_proper : (bytes : List ℕ) (ds : List Datum) → AreBytes bytes → IsSource bytes ds → AreProper (plain_all ds)
source_proper bytes ds b h =
    let all : AreProperTokens (spells h.spelled.phrases []) = subst AreProperTokens h.spelled.tokens_are (tokens_proper bytes 0 start b) in
    subst (λ ds. AreProper (plain_all ds)) (sym h.spelled.data_are) (proper_phrases h.spelled.phrases [] all).0

pub read_proper : (bytes : List ℕ) (a : Result (List Datum) ReadErr) → ((i : ℕ) → get_or bytes i 0 < 256) → Reads bytes a → IfOk a (λ ds. AreProper (plain_all ds))
read_proper bytes (Ok ds) b h = source_proper bytes ds (are_bytes bytes b) h
read_proper bytes (Err e) b h = tt
