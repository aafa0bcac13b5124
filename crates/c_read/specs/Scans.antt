-- What code that scans a text gives, as lexemes and their parts.
use Rattle.std.specs.Prelude.{ℕ, ◌+◌, ◌-◌, List, [], ◌∷◌, ◌++◌, ◌&&◌, if◌then◌else◌, Option, Some, None}
use Rattle.std.specs.List.{prefix_len, take_while}
use Rattle.c_tree.specs.Lexical.{Bad, Word, is_word_byte, is_octal, is_coded, octal_value, Spelled, Quoted, Lexeme, Lexed, Gap, lexeme}
use Rattle.c_read.specs.declared.lex.StringByte.{StringByte}
use Rattle.c_read.specs.declared.lex.Quote.{Quote}
use Rattle.c_read.specs.declared.lex.Scan.{Scan}
use Rattle.c_read.specs.declared.lex.Scan.TheVariants as scan

abbrev pub octal_byte : ℕ → ℕ → ℕ → Option ℕ
octal_byte a b c = if is_octal a && (is_octal b && (is_octal c && is_coded (octal_value a b c))) then Some (octal_value a b c) else None

abbrev pub spelled_of : Option StringByte → Option Spelled
spelled_of None = None
spelled_of (Some p) = Some (record { byte = p.byte; size = p.more + 1 })

abbrev pub quoted_of : Option Quote → Option Quoted
quoted_of None = None
quoted_of (Some q) = Some (record { bytes = q.bytes; size = q.size })

-- so many bytes before, which spell these
abbrev pub quoted_onto : List ℕ → ℕ → Option Quoted → Option Quoted
quoted_onto bytes size None = None
quoted_onto bytes size (Some q) = Some (record { bytes = bytes ++ q.bytes; size = size + q.size })

-- so many bytes before
abbrev pub comment_onto : ℕ → Option ℕ → Option ℕ
comment_onto size None = None
comment_onto size (Some n) = Some (size + n)

abbrev pub lexeme_of : Scan → Lexeme
lexeme_of (scan.Gap more) = Gap more
lexeme_of (scan.Lexed t more) = Lexed t more

abbrev pub more_of : Scan → ℕ
more_of (scan.Gap more) = more
more_of (scan.Lexed t more) = more

abbrev pub lexeme_at : List ℕ → Lexeme
lexeme_at [] = Lexed Bad 0
lexeme_at (b ∷ bs) = lexeme b bs

-- the word at the front, which isn't empty
abbrev pub word_lexeme : List ℕ → Lexeme
word_lexeme text = Lexed (Word (take_while is_word_byte text)) (prefix_len is_word_byte text - 1)

abbrev pub size_in : Option Quoted → Option ℕ
size_in None = None
size_in (Some q) = Some q.size

-- so many bytes before
abbrev pub size_onto : ℕ → Option Quoted → Option ℕ
size_onto size None = None
size_onto size (Some q) = Some (size + q.size)
