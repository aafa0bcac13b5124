-- Strings: bytes between quotes, where a backslash begins one of four escapes.
use Rattle.std.specs.Prelude.{ℕ, ◌+◌, List, [], ◌∷◌, ◌++◌, take, nat_eq, Bool, true, false, not, ◌&&◌, ◌||◌, if◌then◌else◌, Option, Some, None}
use Rattle.scheme_tokens.specs.declared.lex.Lexeme.{Lexeme}
use Rattle.scheme_tokens.specs.declared.lex.Lexeme.TheVariants as lexed
use Rattle.scheme_tokens.specs.declared.token.Atom.TheVariants as atom
use Rattle.scheme_tokens.specs.declared.token.Word.TheVariants as word
use Rattle.scheme_tokens.specs.Comments.{one_more}

-- `\\`, `\"`, `\n` and `\t`
abbrev pub is_escape : ℕ → Bool
is_escape b = nat_eq b 92 || (nat_eq b 34 || (nat_eq b 110 || nat_eq b 116))

-- the byte that an escape stands for
abbrev pub escaped_byte : ℕ → ℕ
escaped_byte b = if nat_eq b 110 then 10 else (if nat_eq b 116 then 9 else b)

-- whether the next byte is the second of an escape
abbrev pub is_escaping : Bool → ℕ → Bool
is_escaping escaped b = not escaped && nat_eq b 92

-- a byte that ends no escape
abbrev pub is_wrong : Bool → ℕ → Bool
is_wrong escaped b = escaped && not (is_escape b)

abbrev pub is_closing_quote : Bool → ℕ → Bool
is_closing_quote escaped b = not escaped && nat_eq b 34

-- how many bytes stand before the closing quote; none where it is missing, or at an escape that is none
abbrev pub spelled_len : Bool → List ℕ → Option ℕ
spelled_len escaped [] = None
spelled_len escaped (b ∷ bs) =
    if is_wrong escaped b then None
    else (if is_closing_quote escaped b then Some 0 else one_more (spelled_len (is_escaping escaped b) bs))

-- what a byte of the spelling adds
abbrev pub part : Bool → ℕ → List ℕ
part true b = escaped_byte b ∷ []
part false b = if nat_eq b 92 then [] else b ∷ []

-- the text that is spelled so
abbrev pub unescaped : Bool → List ℕ → List ℕ
unescaped escaped [] = []
unescaped escaped (b ∷ bs) = part escaped b ++ unescaped (is_escaping escaped b) bs

abbrev pub string_of : List ℕ → Option ℕ → Lexeme
string_of rest None = lexed.Token word.Bad 0
string_of rest (Some n) = lexed.Token (word.Atom (atom.Str (unescaped false (take n rest)))) (n + 1)

-- a string, by what follows its opening quote
unfoldable pub string_lexeme : List ℕ → Lexeme
string_lexeme rest = string_of rest (spelled_len false rest)
