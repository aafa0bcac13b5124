-- Kinds of tokens.
use Rattle.std.specs.Prelude.{ℕ, List, nat_eq, Bool, if◌then◌else◌}
use Rattle.c_tree.specs.Lexical.{Token, Word, Mark, Str, Bad}
use Rattle.c_words.specs.declared.kind.WordKind.{WordKind}
use Rattle.c_words.specs.declared.kind.WordKind.TheVariants as word
use Rattle.c_words.specs.Kinds.{word_kind}
use Rattle.c_read.specs.declared.kinds.Kind.{Kind}
use Rattle.c_read.specs.declared.kinds.Kind.TheVariants as kind

abbrev pub code : Kind → ℕ
code kind.Type = 0
code kind.Void = 1
code kind.Extern = 2
code kind.Return = 3
code kind.If = 4
code kind.Else = 5
code kind.For = 6
code kind.Goto = 7
code kind.Catch = 8
code kind.Protect = 9
code kind.Local = 10
code kind.Global = 11
code kind.Value = 12
code kind.Function = 13
code kind.Entry = 14
code kind.Operation = 15
code kind.Label = 16
code kind.EndLabel = 17
code kind.And = 18
code kind.OpenParen = 19
code kind.CloseParen = 20
code kind.Comma = 21
code kind.Colon = 22
code kind.Semicolon = 23
code kind.Equals = 24
code kind.OpenBrace = 25
code kind.CloseBrace = 26
code kind.Quoted = 27
code kind.Other = 28

abbrev pub same_kind : Kind → Kind → Bool
same_kind a b = nat_eq (code a) (code b)

-- the kind of token that a word of a kind is
abbrev pub coarse : WordKind → Kind
coarse (word.Type t) = kind.Type
coarse word.Void = kind.Void
coarse word.Extern = kind.Extern
coarse word.Return = kind.Return
coarse word.If = kind.If
coarse word.Else = kind.Else
coarse word.For = kind.For
coarse word.Goto = kind.Goto
coarse word.Catch = kind.Catch
coarse word.Protect = kind.Protect
coarse word.False = kind.Value
coarse word.True = kind.Value
coarse word.Nil = kind.Value
coarse word.Unspec = kind.Value
coarse word.Eof = kind.Value
coarse word.Local = kind.Local
coarse word.Label = kind.Label
coarse word.EndLabel = kind.EndLabel
coarse word.Symbol = kind.Value
coarse word.Global = kind.Global
coarse word.Entry = kind.Entry
coarse word.Function = kind.Function
coarse (word.Number n) = kind.Value
coarse (word.Operation op) = kind.Operation
coarse word.Other = kind.Other

unfoldable pub kind_of : List ℕ → Kind
kind_of word = coarse (word_kind word)

abbrev pub mark_kind : ℕ → Kind
mark_kind m =
    if nat_eq m 38 then kind.And
    else (if nat_eq m 40 then kind.OpenParen
    else (if nat_eq m 41 then kind.CloseParen
    else (if nat_eq m 44 then kind.Comma
    else (if nat_eq m 58 then kind.Colon
    else (if nat_eq m 59 then kind.Semicolon
    else (if nat_eq m 61 then kind.Equals
    else (if nat_eq m 123 then kind.OpenBrace
    else (if nat_eq m 125 then kind.CloseBrace
    else kind.Other))))))))

abbrev pub token_kind : Token → Kind
token_kind (Word w) = kind_of w
token_kind (Mark m) = mark_kind m
token_kind (Str text) = kind.Quoted
token_kind Bad = kind.Other
