-- What a word says, by what it is.
use Rattle.std.specs.Prelude.{ℕ, List, codes, Bool, Option, Some, None}
use Rattle.scheme_data.specs.Names.{is_same}
use Rattle.c_tree.specs.declared.tree.CTy.{CTy}
use Rattle.c_tree.specs.declared.tree.CAtom.{CAtom}
use Rattle.c_tree.specs.declared.tree.CAtom.TheVariants as atom
use Rattle.c_tree.specs.declared.tree.Callee.{Callee}
use Rattle.c_tree.specs.declared.tree.Callee.TheVariants as callee
use Rattle.c_words.specs.declared.kind.WordKind.{WordKind}
use Rattle.c_words.specs.declared.kind.WordKind.TheVariants as kind
use Rattle.c_words.specs.Kinds.{word_kind}

abbrev pub type_in : WordKind → Option CTy
type_in (kind.Type t) = Some t
type_in _ = None

unfoldable pub type_of : List ℕ → Option CTy
type_of word = type_in (word_kind word)

abbrev pub atom_in : List ℕ → WordKind → Option CAtom
atom_in word kind.Local = Some (atom.Name word)
atom_in word kind.Global = Some (atom.Name word)
atom_in word kind.Symbol = Some (atom.Sym word)
atom_in word (kind.Number n) = Some (atom.Int n)
atom_in word kind.False = Some atom.False
atom_in word kind.True = Some atom.True
atom_in word kind.Nil = Some atom.Nil
atom_in word kind.Unspec = Some atom.Unspec
atom_in word kind.Eof = Some atom.Eof
atom_in word _ = None

unfoldable pub atom_of : List ℕ → Option CAtom
atom_of word = atom_in word (word_kind word)

abbrev pub callee_in : List ℕ → WordKind → Option Callee
callee_in word kind.Entry = Some (callee.Fun word)
callee_in word kind.Function = Some (callee.Fun word)
callee_in word (kind.Operation op) = Some (callee.Op op)
callee_in word _ = None

unfoldable pub callee_of : List ℕ → Option Callee
callee_of word = callee_in word (word_kind word)

abbrev pub is_return : List ℕ → Bool
is_return word = is_same word (codes "return")

abbrev pub is_if : List ℕ → Bool
is_if word = is_same word (codes "if")

abbrev pub is_goto : List ℕ → Bool
is_goto word = is_same word (codes "goto")

abbrev pub is_catch : List ℕ → Bool
is_catch word = is_same word (codes "BGL_CATCH")

abbrev pub is_protect : List ℕ → Bool
is_protect word = is_same word (codes "BGL_PROTECT")

abbrev pub is_extern : List ℕ → Bool
is_extern word = is_same word (codes "extern")
