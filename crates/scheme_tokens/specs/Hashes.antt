-- What begins with `#`: vectors, block comments, characters and constants.
use Rattle.std.specs.Prelude.{ℕ, ◌+◌, List, [], ◌∷◌, codes, nat_eq, true, false, if◌then◌else◌, Option, Some, None}
use Rattle.std.specs.List.{prefix_len, take_while}
use Rattle.scheme_data.specs.Symbols.{is_symbol_byte}
use Rattle.scheme_data.specs.Names.{is_same}
use Rattle.scheme_tokens.specs.declared.lex.Lexeme.{Lexeme}
use Rattle.scheme_tokens.specs.declared.lex.Lexeme.TheVariants as lexed
use Rattle.scheme_tokens.specs.declared.token.Atom.TheVariants as atom
use Rattle.scheme_tokens.specs.declared.token.Word.{Word}
use Rattle.scheme_tokens.specs.declared.token.Word.TheVariants as word
use Rattle.scheme_tokens.specs.Comments.{comment_len}

-- the constant of this name after `#`
abbrev pub constant_word : List ℕ → Word
constant_word name =
    if is_same name (codes "t") then word.Atom (atom.Bool true)
    else (if is_same name (codes "f") then word.Atom (atom.Bool false)
    else (if is_same name (codes "unspecified") then word.Atom atom.Unspec else word.Bad))

-- the character of this name after `#\`
abbrev pub named_byte : List ℕ → Option ℕ
named_byte name =
    if is_same name (codes "space") then Some 32
    else (if is_same name (codes "newline") then Some 10
    else (if is_same name (codes "tab") then Some 9
    else (if is_same name (codes "return") then Some 13
    else (if is_same name (codes "null") then Some 0 else None))))

abbrev pub byte_word : Option ℕ → Word
byte_word None = word.Bad
byte_word (Some b) = word.Atom (atom.Chr b)

-- one byte of any kind, or a name
abbrev pub character_word : List ℕ → Word
character_word (b ∷ []) = word.Atom (atom.Chr b)
character_word name = byte_word (named_byte name)

-- A character, by what follows its `#\`: the next byte, whatever it is, and the symbol bytes that follow it.
unfoldable pub character_lexeme : List ℕ → Lexeme
character_lexeme [] = lexed.Token word.Bad 0
character_lexeme (b ∷ bs) = lexed.Token (character_word (b ∷ take_while is_symbol_byte bs)) (2 + prefix_len is_symbol_byte bs)

abbrev pub comment_of : Option ℕ → Lexeme
comment_of None = lexed.Token word.Bad 0
comment_of (Some n) = lexed.Gap (1 + n)

-- a block comment, by what follows its `#|`
abbrev pub block_lexeme : List ℕ → Lexeme
block_lexeme rest = comment_of (comment_len 0 0 rest)

abbrev pub constant_lexeme : List ℕ → Lexeme
constant_lexeme rest = lexed.Token (constant_word (take_while is_symbol_byte rest)) (prefix_len is_symbol_byte rest)

-- what begins with `#`, by what follows it
unfoldable pub hash_lexeme : List ℕ → Lexeme
hash_lexeme [] = lexed.Token word.Bad 0
hash_lexeme (b ∷ bs) =
    if nat_eq b 40 then lexed.Token word.OpenVector 1
    else (if nat_eq b 124 then block_lexeme bs
    else (if nat_eq b 92 then character_lexeme bs
    else constant_lexeme (b ∷ bs)))
