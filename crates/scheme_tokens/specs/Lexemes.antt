-- What stands at the front of bytes, as long as possible.
use Rattle.std.specs.Prelude.{ℕ, List, [], ◌∷◌, nat_eq, if◌then◌else◌}
use Rattle.std.specs.List.{prefix_len, take_while}
use Rattle.scheme_data.specs.Symbols.{is_symbol_byte}
use Rattle.scheme_tokens.specs.declared.lex.Lexeme.{Lexeme}
use Rattle.scheme_tokens.specs.declared.lex.Lexeme.TheVariants as lexed
use Rattle.scheme_tokens.specs.declared.token.Word.{Word}
use Rattle.scheme_tokens.specs.declared.token.Word.TheVariants as word
use Rattle.scheme_tokens.specs.Comments.{not_newline}
use Rattle.scheme_tokens.specs.Hashes.{hash_lexeme}
use Rattle.scheme_tokens.specs.Strings.{string_lexeme}
use Rattle.scheme_tokens.specs.Words.{is_space, word_of}

-- what a byte is that begins nothing longer
abbrev pub mark_word : ℕ → Word
mark_word b = if nat_eq b 40 then word.Open else (if nat_eq b 41 then word.Close else (if nat_eq b 39 then word.Quote else word.Bad))

-- white space, a comment or a token, with the number of its bytes after the first
unfoldable pub lexeme : List ℕ → Lexeme
lexeme [] = lexed.Gap 0
lexeme (b ∷ bs) =
    if is_space b then lexed.Gap 0
    else (if is_symbol_byte b then lexed.Token (word_of (b ∷ take_while is_symbol_byte bs)) (prefix_len is_symbol_byte bs)
    else (if nat_eq b 59 then lexed.Gap (prefix_len not_newline bs)
    else (if nat_eq b 34 then string_lexeme bs
    else (if nat_eq b 35 then hash_lexeme bs
    else lexed.Token (mark_word b) 0))))
