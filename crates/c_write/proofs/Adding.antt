-- Additions to a text one after another, and the smallest ones.
use Rattle.std.proofs.Common.{◌≡◌, ℕ, suc, ◌+◌, List, [], ◌∷◌, ◌++◌, length, take, refl, sym, ◌∙◌, ap, append_assoc, arith}
use Rattle.std.specs.Prelude.{Bool, true, false, if◌then◌else◌, ◌&&◌, ◌||◌, not, nat_eq, IsTrue}
use Rattle.std.specs.List.{list_all, prefix_len, take_while}
use Rattle.std.proofs.Math.Numerals.{one-add}
use Rattle.std.proofs.lemmas.Bool.{and_parts}
use Rattle.std.proofs.lemmas.Bool.Decides.{nat_tests}
use Rattle.std.proofs.lemmas.List.{append-nil}
use Rattle.c_tree.specs.Lexical.{Token, Word, Mark, Bad, tokens, tokens_from, lexeme, Gap, Lexed, emit, is_word_byte, is_space, is_mark}
use Rattle.c_write.specs.Adds.{Follow, anything, apart, begins_apart, MayFollow, Ends, Adds, is_run, is_word}

-- One after another -------------------------------------------------------------------------

pub adds_both : {before between after : Follow} {old middle new : List ℕ} {f g : List Token → List Token}
    → Adds before between old middle f → Adds between after middle new g → Adds before after old new (λ ts. f (g ts))
adds_both {f} first second = record { holds = λ front ends. second.holds (λ ts. front (f ts)) (first.holds front ends) }

pub adds_none : (follow : Follow) (text : List ℕ) → Adds follow follow text text (λ ts. ts)
adds_none follow text = record { holds = λ front ends. ends }

ends_apart : (text : List ℕ) (front : List Token → List Token) → Ends anything text front → Ends apart text front
ends_apart text front ends = record { holds = λ rest may. ends.holds rest tt }

-- what may follow is asked for less
pub adds_apart : {before : Follow} {old new : List ℕ} {f : List Token → List Token} → Adds before anything old new f → Adds before apart old new f
adds_apart {new} {f} adds = record { holds = λ front ends. ends_apart new (λ ts. front (f ts)) (adds.holds front ends) }

-- where what stands apart may be added, anything that does may be added to a text that anything may follow
pub from_anything : {after : Follow} {old new : List ℕ} {f : List Token → List Token} → Adds apart after old new f → Adds anything after old new f
from_anything {old} adds = record { holds = λ front ends. adds.holds front (ends_apart old front ends) }

pub tokens_all : {text : List ℕ} {f : List Token → List Token} → Adds anything anything [] text f → tokens text ≡ f []
tokens_all {text} {f} adds =
    let ends : Ends anything text f = adds.holds (λ ts. ts) (record { holds = λ rest may. refl }) in
    ap tokens (sym (append-nil text)) ∙ ends.holds [] tt

-- The smallest ones -------------------------------------------------------------------------

pub adds_from : (before after : Follow) (old new text : List ℕ) (f : List Token → List Token) → new ≡ old ++ text
    → ((rest : List ℕ) → MayFollow after rest → MayFollow before (text ++ rest))
    → ((rest : List ℕ) → MayFollow after rest → tokens (text ++ rest) ≡ f (tokens rest))
    → Adds before after old new f
adds_from before after old new text f e follows spelled = record {
  holds = λ front ends. record {
    holds = λ rest may.
        ap (λ t. tokens (t ++ rest)) e
        ∙ ap tokens (append_assoc old text rest)
        ∙ ends.holds (text ++ rest) (follows rest may)
        ∙ ap front (spelled rest may);
  };
}

gap_apart : (b : ℕ) → is_space b ≡ true → not (is_word_byte b) ≡ true
gap_apart b h = grind (arith, nat_tests)

lexeme_gap : (b : ℕ) (rest : List ℕ) → is_space b ≡ true → lexeme b rest ≡ Gap 0
unfolding lexeme
lexeme_gap b rest h = rw h refl

pub gap_adds : (old new : List ℕ) (b : ℕ) → IsTrue (is_space b) → new ≡ old ++ b ∷ [] → Adds apart anything old new (λ ts. ts)
gap_adds old new b h e = adds_from apart anything old new (b ∷ []) (λ ts. ts) e (λ rest may. gap_apart b h)
    (λ rest may. ap (λ l. emit l (λ skip. tokens_from skip rest)) (lexeme_gap b rest h))

mark_apart : (b : ℕ) → is_mark b ≡ true → is_word_byte b ≡ false
mark_apart b h = grind (arith, nat_tests)

mark_no_space : (b : ℕ) → is_mark b ≡ true → is_space b ≡ false
mark_no_space b h = grind (arith, nat_tests)

mark_no_minus : (b : ℕ) → is_mark b ≡ true → nat_eq b 45 ≡ false
mark_no_minus b h = grind (arith, nat_tests)

lexeme_mark : (b : ℕ) (rest : List ℕ) → is_mark b ≡ true → lexeme b rest ≡ Lexed (Mark b) 0
unfolding lexeme
lexeme_mark b rest h = rw (mark_no_space b h, mark_apart b h, mark_no_minus b h, h) refl

pub mark_adds : (old new : List ℕ) (b : ℕ) → IsTrue (is_mark b) → new ≡ old ++ b ∷ [] → Adds apart anything old new (λ ts. Mark b ∷ ts)
mark_adds old new b h e = adds_from apart anything old new (b ∷ []) (λ ts. Mark b ∷ ts) e (λ rest may. ap not (mark_apart b h))
    (λ rest may. ap (λ l. emit l (λ skip. tokens_from skip rest)) (lexeme_mark b rest h))

-- Words -------------------------------------------------------------------------------------

pub skip_all : (text rest : List ℕ) → tokens_from (length text) (text ++ rest) ≡ tokens rest
skip_all [] rest = refl
skip_all (b ∷ bs) rest = skip_all bs rest

take_front : (bs rest : List ℕ) → take (length bs) (bs ++ rest) ≡ bs
take_front [] rest = refl
take_front (b ∷ bs) rest = ap (λ xs. b ∷ xs) (take_front bs rest)

no_run : (rest : List ℕ) → begins_apart rest ≡ true → prefix_len is_word_byte rest ≡ 0
no_run [] h = refl
no_run (b ∷ bs) h = let out : is_word_byte b ≡ false = grind (arith, nat_tests) in rw out refl

run_len : (bs rest : List ℕ) → list_all is_word_byte bs ≡ true → begins_apart rest ≡ true → prefix_len is_word_byte (bs ++ rest) ≡ length bs
run_len [] rest h apart_rest = no_run rest apart_rest
run_len (b ∷ bs) rest h apart_rest =
    let parts = and_parts (is_word_byte b) (list_all is_word_byte bs) h in
    rw (parts.0) (ap (λ n. 1 + n) (run_len bs rest parts.1 apart_rest) ∙ one-add (length bs))

run_is : (bs rest : List ℕ) → list_all is_word_byte bs ≡ true → begins_apart rest ≡ true → take_while is_word_byte (bs ++ rest) ≡ bs
run_is bs rest h apart_rest = ap (λ n. take n (bs ++ rest)) (run_len bs rest h apart_rest) ∙ take_front bs rest

word_no_space : (b : ℕ) → is_word_byte b ≡ true → is_space b ≡ false
word_no_space b h = grind (arith, nat_tests)

lexeme_run : (b : ℕ) (bs rest : List ℕ) → is_word_byte b ≡ true → list_all is_word_byte bs ≡ true → begins_apart rest ≡ true
    → lexeme b (bs ++ rest) ≡ Lexed (Word (b ∷ bs)) (length bs)
unfolding lexeme
lexeme_run b bs rest first others apart_rest =
    rw (word_no_space b first, first)
    (ap (λ t. Lexed (Word (b ∷ t)) (prefix_len is_word_byte (bs ++ rest))) (run_is bs rest others apart_rest)
    ∙ ap (Lexed (Word (b ∷ bs))) (run_len bs rest others apart_rest))

suc_not_zero : (n : ℕ) → nat_eq (suc n) 0 ≡ false
suc_not_zero n = grind (arith, nat_tests)

lexeme_minus : (b : ℕ) (bs rest : List ℕ) → is_run (b ∷ bs) ≡ true → begins_apart rest ≡ true
    → lexeme 45 ((b ∷ bs) ++ rest) ≡ Lexed (Word (45 ∷ b ∷ bs)) (length (b ∷ bs))
unfolding lexeme
lexeme_minus b bs rest h apart_rest =
    ap (λ n. if nat_eq n 0 then Lexed Bad 0 else Lexed (Word (45 ∷ take n ((b ∷ bs) ++ rest))) n) (run_len (b ∷ bs) rest h apart_rest)
    ∙ ap (λ t. if t then Lexed Bad 0 else Lexed (Word (45 ∷ take (length (b ∷ bs)) ((b ∷ bs) ++ rest))) (length (b ∷ bs))) (suc_not_zero (length bs))
    ∙ ap (λ t. Lexed (Word (45 ∷ t)) (length (b ∷ bs))) (take_front (b ∷ bs) rest)

run_tokens : (b : ℕ) (bs rest : List ℕ) → is_run (b ∷ bs) ≡ true → begins_apart rest ≡ true → tokens ((b ∷ bs) ++ rest) ≡ Word (b ∷ bs) ∷ tokens rest
run_tokens b bs rest h apart_rest =
    let parts = and_parts (is_word_byte b) (list_all is_word_byte bs) h in
    ap (λ l. emit l (λ skip. tokens_from skip (bs ++ rest))) (lexeme_run b bs rest parts.0 parts.1 apart_rest)
    ∙ ap (λ ts. Word (b ∷ bs) ∷ ts) (skip_all bs rest)

minus_tokens : (bs rest : List ℕ) → is_run bs ≡ true → begins_apart rest ≡ true → tokens (45 ∷ bs ++ rest) ≡ Word (45 ∷ bs) ∷ tokens rest
minus_tokens [] rest h apart_rest = absurd (cc)
minus_tokens (b ∷ bs) rest h apart_rest =
    ap (λ l. emit l (λ skip. tokens_from skip ((b ∷ bs) ++ rest))) (lexeme_minus b bs rest h apart_rest)
    ∙ ap (λ ts. Word (45 ∷ b ∷ bs) ∷ ts) (skip_all (b ∷ bs) rest)

word_tokens_by : (t : Bool) (b : ℕ) (bs rest : List ℕ) → is_run (b ∷ bs) ≡ t → (t || (nat_eq b 45 && is_run bs)) ≡ true → begins_apart rest ≡ true
    → tokens ((b ∷ bs) ++ rest) ≡ Word (b ∷ bs) ∷ tokens rest
word_tokens_by true b bs rest run h apart_rest = run_tokens b bs rest run apart_rest
word_tokens_by false b bs rest run h apart_rest =
    let parts = and_parts (nat_eq b 45) (is_run bs) h in
    let minus : b ≡ 45 = grind (arith, nat_tests) in
    rw minus (minus_tokens bs rest parts.1 apart_rest)

word_tokens : (word rest : List ℕ) → is_word word ≡ true → begins_apart rest ≡ true → tokens (word ++ rest) ≡ Word word ∷ tokens rest
word_tokens [] rest h apart_rest = absurd (cc)
word_tokens (b ∷ bs) rest h apart_rest = word_tokens_by (is_run (b ∷ bs)) b bs rest refl h apart_rest

pub word_adds : (old new word : List ℕ) → IsTrue (is_word word) → new ≡ old ++ word → Adds anything apart old new (λ ts. Word word ∷ ts)
word_adds old new word h e = adds_from anything apart old new word (λ ts. Word word ∷ ts) e (λ rest may. tt) (λ rest may. word_tokens word rest h may)

indent_tokens : (rest : List ℕ) → tokens (32 ∷ 32 ∷ 32 ∷ 32 ∷ rest) ≡ tokens rest
unfolding lexeme
indent_tokens rest = refl

pub indent_adds : (old new : List ℕ) → new ≡ old ++ 32 ∷ 32 ∷ 32 ∷ 32 ∷ [] → Adds apart anything old new (λ ts. ts)
indent_adds old new e = adds_from apart anything old new (32 ∷ 32 ∷ 32 ∷ 32 ∷ []) (λ ts. ts) e (λ rest may. refl) (λ rest may. indent_tokens rest)
