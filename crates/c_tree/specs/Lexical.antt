-- The tokens of a C text, each as long as possible. Spaces, line ends and comments may stand between them.
use Rattle.std.specs.Prelude.{ℕ, zero, suc, ◌+◌, ◌-◌, ◌*◌, List, [], ◌∷◌, nat_le, nat_lt, nat_eq, Bool, ◌&&◌, ◌||◌, not, if◌then◌else◌, Option, Some, None}
use Rattle.std.specs.List.{prefix_len, take_while}
use Rattle.scheme_data.specs.declared.datum.Place.{Place}
use Rattle.scheme_data.specs.Places.{after, start}
use Rattle.c_tree.specs.Names.{is_alphanumeric}

-- a run of letters, digits and `_`, or a minus sign and one; a mark of one byte; the bytes that a string stands for; or what begins no token
pub data Token : Type 0 where
  Word : List ℕ → Token
  Mark : ℕ → Token
  Str : List ℕ → Token
  Bad : Token

abbrev pub is_space : ℕ → Bool
is_space b = nat_eq b 32 || nat_eq b 10

abbrev pub is_word_byte : ℕ → Bool
is_word_byte b = is_alphanumeric b || nat_eq b 95

-- `&`, `(`, `)`, `,`, `:`, `;`, `=`, `{` and `}`
abbrev pub is_mark : ℕ → Bool
is_mark b = nat_eq b 38 || (nat_eq b 40 || (nat_eq b 41 || (nat_eq b 44 || (nat_eq b 58 || (nat_eq b 59 || (nat_eq b 61 || (nat_eq b 123 || nat_eq b 125)))))))

-- a byte that stands as it is in a string: from 32 to 126, but neither a quote nor a backslash
abbrev pub is_plain : ℕ → Bool
is_plain b = (nat_le 32 b && nat_le b 126) && (not (nat_eq b 34) && not (nat_eq b 92))

abbrev pub is_octal : ℕ → Bool
is_octal b = nat_le 48 b && nat_le b 55

abbrev pub octal_value : ℕ → ℕ → ℕ → ℕ
octal_value a b c = 64 * (a - 48) + (8 * (b - 48) + (c - 48))

-- a byte that is spelled by three octal digits: any that isn't from 32 to 126
abbrev pub is_coded : ℕ → Bool
is_coded v = nat_lt v 32 || (nat_lt 126 v && nat_lt v 256)

-- one byte of a string at the front, with how many bytes spell it; none where none is spelled
pub record Spelled : Type 0 where
  pub byte : ℕ
  pub size : ℕ

abbrev pub octal_at : ℕ → List ℕ → Option Spelled
octal_at a (b ∷ c ∷ bs) = if is_octal a && (is_octal b && (is_octal c && is_coded (octal_value a b c))) then Some (record { byte = octal_value a b c; size = 4 }) else None
octal_at a _ = None

abbrev pub escape_at : List ℕ → Option Spelled
escape_at [] = None
escape_at (b ∷ bs) = if nat_eq b 34 || nat_eq b 92 then Some (record { byte = b; size = 2 }) else octal_at b bs

abbrev pub spelled_at : ℕ → List ℕ → Option Spelled
spelled_at b bs = if is_plain b then Some (record { byte = b; size = 1 }) else (if nat_eq b 92 then escape_at bs else None)

-- the bytes of a string to its closing quote, with how many bytes spell them, the quote included; none where it isn't closed
pub record Quoted : Type 0 where
  pub bytes : List ℕ
  pub size : ℕ

abbrev pub onto_quoted : ℕ → ℕ → Option Quoted → Option Quoted
onto_quoted byte size None = None
onto_quoted byte size (Some q) = Some (record { bytes = byte ∷ q.bytes; size = size + q.size })

abbrev pub spelled_then : Option Spelled → (ℕ → Option Quoted) → Option Quoted
spelled_then None rest = None
spelled_then (Some s) rest = onto_quoted s.byte s.size (rest (s.size - 1))

-- bytes to skip belong to what was spelled before
abbrev pub quoted_from : ℕ → List ℕ → Option Quoted
quoted_from skip [] = None
quoted_from (suc skip) (b ∷ bs) = quoted_from skip bs
quoted_from zero (b ∷ bs) = if nat_eq b 34 then Some (record { bytes = []; size = 1 }) else spelled_then (spelled_at b bs) (λ skip. quoted_from skip bs)

-- how many bytes a comment has after its `/*`, to the first `*/` and with it; none where it doesn't end
abbrev pub one_more : Option ℕ → Option ℕ
one_more None = None
one_more (Some n) = Some (suc n)

-- after a byte that belongs to the comment
abbrev pub comment_from : ℕ → List ℕ → Option ℕ
comment_from last [] = None
comment_from last (b ∷ bs) = if nat_eq last 42 && nat_eq b 47 then Some 1 else one_more (comment_from b bs)

abbrev pub comment_len : List ℕ → Option ℕ
comment_len bs = comment_from 0 bs

-- what stands at the front: white space or a comment, or a token, with the number of its bytes after the first
pub data Lexeme : Type 0 where
  Gap : ℕ → Lexeme
  Lexed : Token → ℕ → Lexeme

abbrev pub gap_of : Option ℕ → Lexeme
gap_of None = Lexed Bad 0
gap_of (Some n) = Gap (suc n)

-- a comment begins with `/` and `*`
abbrev pub comment_lexeme : List ℕ → Lexeme
comment_lexeme [] = Lexed Bad 0
comment_lexeme (b ∷ bs) = if nat_eq b 42 then gap_of (comment_len bs) else Lexed Bad 0

abbrev pub string_lexeme : Option Quoted → Lexeme
string_lexeme None = Lexed Bad 0
string_lexeme (Some q) = Lexed (Str q.bytes) q.size

-- a minus sign is of the word right after it
abbrev pub signed_lexeme : List ℕ → Lexeme
signed_lexeme bs = if nat_eq (prefix_len is_word_byte bs) 0 then Lexed Bad 0 else Lexed (Word (45 ∷ take_while is_word_byte bs)) (prefix_len is_word_byte bs)

unfoldable pub lexeme : ℕ → List ℕ → Lexeme
lexeme b bs =
    if is_space b then Gap 0
    else (if is_word_byte b then Lexed (Word (b ∷ take_while is_word_byte bs)) (prefix_len is_word_byte bs)
    else (if nat_eq b 45 then signed_lexeme bs
    else (if is_mark b then Lexed (Mark b) 0
    else (if nat_eq b 34 then string_lexeme (quoted_from 0 bs)
    else (if nat_eq b 47 then comment_lexeme bs
    else Lexed Bad 0)))))

abbrev pub emit : Lexeme → (ℕ → List Token) → List Token
emit (Gap size) next = next size
emit (Lexed t size) next = t ∷ next size

-- the tokens of the bytes, of which the first to skip belong to what began before
abbrev pub tokens_from : ℕ → List ℕ → List Token
tokens_from skip [] = []
tokens_from (suc skip) (b ∷ bs) = tokens_from skip bs
tokens_from zero (b ∷ bs) = emit (lexeme b bs) (λ skip. tokens_from skip bs)

abbrev pub tokens : List ℕ → List Token
tokens bytes = tokens_from 0 bytes

-- Places ------------------------------------------------------------------------------------

-- a token with the place of its first byte
pub record Placed : Type 0 where
  pub at : Place
  pub token : Token

abbrev pub placed : Place → Token → Placed
placed at t = record { at = at; token = t }

abbrev pub emit_at : Place → Lexeme → (ℕ → List Placed) → List Placed
emit_at at (Gap size) next = next size
emit_at at (Lexed t size) next = placed at t ∷ next size

abbrev pub placed_from : ℕ → Place → List ℕ → List Placed
placed_from skip at [] = []
placed_from (suc skip) at (b ∷ bs) = placed_from skip (after at b) bs
placed_from zero at (b ∷ bs) = emit_at at (lexeme b bs) (λ skip. placed_from skip (after at b) bs)

-- the same tokens, each with its place
abbrev pub placed_tokens : List ℕ → List Placed
placed_tokens bytes = placed_from 0 start bytes
