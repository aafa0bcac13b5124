-- What a word of a C text is.
use Rattle.std.specs.Prelude.{ℕ, List, [], ◌∷◌, codes, find, nat_eq, nat_lt, Bool, false, if◌then◌else◌, Option, Some, None, ℤ}
use Rattle.scheme_data.specs.Names.{is_same}
use Rattle.c_tree.specs.declared.tree.CTy.TheVariants.{Obj, Long, Char, Int}
use Rattle.c_tree.specs.declared.op.Op.{Op}
use Rattle.c_tree.specs.Names.{is_mangled_symbol, is_numeral, is_symbol_or_number, is_of_module, is_function_name, is_entry_name, is_global_name, is_symbol_name, is_local_name, is_label_name, is_end_label_name}
use Rattle.c_tree.specs.Operations.{op_named}
use Rattle.c_words.specs.Words.{number_of}
use Rattle.c_words.specs.declared.kind.WordKind.{WordKind}
use Rattle.c_words.specs.declared.kind.WordKind.TheVariants as kind

-- a word of the language, and what it is
pub record Reserved : Type 0 where
  pub word : List ℕ
  pub kind : WordKind

abbrev pub reserved_word : List ℕ → WordKind → Reserved
reserved_word word kind = record { word = word; kind = kind }

-- in the order of their bytes; `main` is the one function whose name is no module's
abbrev pub reserved : List Reserved
reserved =
    reserved_word (codes "BGL_CATCH") kind.Catch
    ∷ reserved_word (codes "BGL_EOF") kind.Eof
    ∷ reserved_word (codes "BGL_FALSE") kind.False
    ∷ reserved_word (codes "BGL_NIL") kind.Nil
    ∷ reserved_word (codes "BGL_PROTECT") kind.Protect
    ∷ reserved_word (codes "BGL_TRUE") kind.True
    ∷ reserved_word (codes "BGL_UNSPEC") kind.Unspec
    ∷ reserved_word (codes "char") (kind.Type Char)
    ∷ reserved_word (codes "else") kind.Else
    ∷ reserved_word (codes "extern") kind.Extern
    ∷ reserved_word (codes "for") kind.For
    ∷ reserved_word (codes "goto") kind.Goto
    ∷ reserved_word (codes "if") kind.If
    ∷ reserved_word (codes "int") (kind.Type Int)
    ∷ reserved_word (codes "long") (kind.Type Long)
    ∷ reserved_word (codes "main") kind.Function
    ∷ reserved_word (codes "obj") (kind.Type Obj)
    ∷ reserved_word (codes "return") kind.Return
    ∷ reserved_word (codes "void") kind.Void
    ∷ []

abbrev pub is_reserved : List ℕ → Reserved → Bool
is_reserved word r = is_same word r.word

abbrev pub by_operation : Option Op → WordKind
by_operation None = kind.Other
by_operation (Some op) = kind.Operation op

abbrev pub by_reserved : Option Reserved → WordKind → WordKind
by_reserved None otherwise = otherwise
by_reserved (Some r) otherwise = r.kind

-- a word that no part of a program chooses
unfoldable pub fixed_kind : List ℕ → WordKind
fixed_kind word = by_reserved (find (is_reserved word) reserved) (by_operation (op_named word))

abbrev pub by_number : Option ℤ → WordKind
by_number None = kind.Other
by_number (Some n) = kind.Number n

-- before the letters, as numbers do
abbrev pub begins_low : List ℕ → Bool
begins_low [] = false
begins_low (b ∷ bs) = nat_lt b 65

unfoldable pub word_kind : List ℕ → WordKind
word_kind word =
    if is_local_name word then kind.Local
    else (if is_label_name word then kind.Label
    else (if is_end_label_name word then kind.EndLabel
    else (if is_symbol_name word then kind.Symbol
    else (if is_global_name word then kind.Global
    else (if is_entry_name word then kind.Entry
    else (if is_function_name word then kind.Function
    else (if begins_low word then by_number (number_of word)
    else fixed_kind word)))))))

-- Behind a letter and `_` -------------------------------------------------------------------

abbrev pub if_named : Bool → WordKind → WordKind
if_named named k = if named then k else kind.Other

-- what a word is that begins with a letter of a kind of names and `_`, by what is behind these
abbrev pub prefixed_kind : ℕ → List ℕ → WordKind
prefixed_kind letter rest =
    if nat_eq letter 115 then if_named (is_mangled_symbol rest) kind.Symbol
    else (if nat_eq letter 99 then if_named (is_mangled_symbol rest) kind.Function
    else (if nat_eq letter 105 then if_named (is_mangled_symbol rest) kind.Function
    else (if nat_eq letter 118 then if_named (is_of_module is_mangled_symbol rest) kind.Global
    else (if nat_eq letter 117 then if_named (is_of_module is_mangled_symbol rest) kind.Global
    else (if nat_eq letter 112 then if_named (is_of_module is_mangled_symbol rest) kind.Global
    else (if nat_eq letter 113 then if_named (is_of_module is_numeral rest) kind.Global
    else (if nat_eq letter 101 then if_named (is_of_module is_symbol_or_number rest) kind.Entry
    else (if nat_eq letter 102 then if_named (is_of_module is_symbol_or_number rest) kind.Function
    else kind.Other))))))))
