-- The C grammar: the tokens of each production in front of a rest, and which names may stand where.
use Rattle.std.specs.Prelude.{◌≡◌, ℕ, List, [], ◌∷◌, codes, IsTrue}
use Rattle.scheme_data.specs.Decimal.{number_text}
use Rattle.scheme_data.specs.Fixnum.{IsFixnum}
use Rattle.c_tree.specs.declared.tree.CTy.{CTy}
use Rattle.c_tree.specs.declared.tree.CTy.TheVariants as ty
use Rattle.c_tree.specs.declared.tree.CAtom.{CAtom}
use Rattle.c_tree.specs.declared.tree.CAtom.TheVariants as atom
use Rattle.c_tree.specs.declared.tree.CArg.{CArg}
use Rattle.c_tree.specs.declared.tree.CArg.TheVariants as arg
use Rattle.c_tree.specs.declared.tree.Callee.{Callee}
use Rattle.c_tree.specs.declared.tree.Callee.TheVariants as callee
use Rattle.c_tree.specs.declared.tree.CCall.{CCall}
use Rattle.c_tree.specs.declared.tree.CExpr.{CExpr}
use Rattle.c_tree.specs.declared.tree.CExpr.TheVariants as expr
use Rattle.c_tree.specs.declared.tree.CVar.{CVar}
use Rattle.c_tree.specs.declared.pieces.Piece.{Piece}
use Rattle.c_tree.specs.declared.pieces.Piece.TheVariants as piece
use Rattle.c_tree.specs.Code.{Code, done, assign, call, return, test, loop, ended, goto, catch, protect, Item, external, global, declared, defined}
use Rattle.c_tree.specs.Operations.{op_text}
use Rattle.c_tree.specs.Names.{is_function_name, is_entry_name, is_variable_name, is_global_name, is_symbol_name, is_local_name, is_label_name, is_end_label_name, is_target_name}
use Rattle.c_tree.specs.Lexical.{Token, Word, Mark, Str, tokens}

abbrev pub type_text : CTy → List ℕ
type_text ty.Obj = codes "obj"
type_text ty.Long = codes "long"
type_text ty.Char = codes "char"
type_text ty.Int = codes "int"

abbrev pub atom_text : CAtom → List ℕ
atom_text (atom.Int n) = number_text n
atom_text (atom.Name x) = x
atom_text (atom.Sym x) = x
atom_text atom.False = codes "BGL_FALSE"
atom_text atom.True = codes "BGL_TRUE"
atom_text atom.Nil = codes "BGL_NIL"
atom_text atom.Unspec = codes "BGL_UNSPEC"
atom_text atom.Eof = codes "BGL_EOF"

abbrev pub callee_text : Callee → List ℕ
callee_text (callee.Fun name) = name
callee_text (callee.Op op) = op_text op

-- Tokens ------------------------------------------------------------------------------------

abbrev pub argument_tokens_of : CArg → List Token → List Token
argument_tokens_of (arg.Atom a) rest = Word (atom_text a) ∷ rest
argument_tokens_of (arg.Str text) rest = Str text ∷ rest
argument_tokens_of (arg.Entry name) rest = Mark 38 ∷ Word name ∷ rest

abbrev pub more_arguments : List CArg → List Token → List Token
more_arguments [] rest = rest
more_arguments (a ∷ others) rest = Mark 44 ∷ argument_tokens_of a (more_arguments others rest)

abbrev pub argument_tokens : List CArg → List Token → List Token
argument_tokens [] rest = rest
argument_tokens (a ∷ others) rest = argument_tokens_of a (more_arguments others rest)

abbrev pub call_tokens : CCall → List Token → List Token
call_tokens c rest = Word (callee_text c.callee) ∷ Mark 40 ∷ argument_tokens c.args (Mark 41 ∷ rest)

abbrev pub expr_tokens : CExpr → List Token → List Token
expr_tokens (expr.Atom a) rest = Word (atom_text a) ∷ rest
expr_tokens (expr.Call c) rest = call_tokens c rest

-- a block's statements
abbrev pub code_tokens : Code → List Token → List Token
code_tokens done rest = rest
code_tokens (assign x e next) rest = Word x ∷ Mark 61 ∷ expr_tokens e (Mark 59 ∷ code_tokens next rest)
code_tokens (call c next) rest = call_tokens c (Mark 59 ∷ code_tokens next rest)
code_tokens (return e next) rest = Word (codes "return") ∷ expr_tokens e (Mark 59 ∷ code_tokens next rest)
code_tokens (test e a b next) rest =
    Word (codes "if") ∷ Mark 40 ∷ expr_tokens e (Mark 41 ∷ Mark 123 ∷ code_tokens a (Mark 125 ∷ Word (codes "else") ∷ Mark 123 ∷ code_tokens b (Mark 125 ∷ code_tokens next rest)))
code_tokens (loop l body next) rest =
    Word l ∷ Mark 58 ∷ Word (codes "for") ∷ Mark 40 ∷ Mark 59 ∷ Mark 59 ∷ Mark 41 ∷ Mark 123 ∷ code_tokens body (Mark 125 ∷ code_tokens next rest)
code_tokens (ended body l next) rest = Mark 123 ∷ code_tokens body (Mark 125 ∷ Word l ∷ Mark 58 ∷ Mark 59 ∷ code_tokens next rest)
code_tokens (goto l next) rest = Word (codes "goto") ∷ Word l ∷ Mark 59 ∷ code_tokens next rest
code_tokens (catch k r body next) rest =
    Word (codes "BGL_CATCH") ∷ Mark 40 ∷ Word k ∷ Mark 44 ∷ Word r ∷ Mark 41 ∷ Mark 123 ∷ code_tokens body (Mark 125 ∷ code_tokens next rest)
code_tokens (protect a b next) rest =
    Word (codes "BGL_PROTECT") ∷ Mark 123 ∷ code_tokens a (Mark 125 ∷ Mark 123 ∷ code_tokens b (Mark 125 ∷ code_tokens next rest))

abbrev pub more_types : List CTy → List Token → List Token
more_types [] rest = rest
more_types (t ∷ ts) rest = Mark 44 ∷ Word (type_text t) ∷ more_types ts rest

-- `void` where there is none
abbrev pub type_tokens : List CTy → List Token → List Token
type_tokens [] rest = Word (codes "void") ∷ rest
type_tokens (t ∷ ts) rest = Word (type_text t) ∷ more_types ts rest

abbrev pub more_params : List CVar → List Token → List Token
more_params [] rest = rest
more_params (v ∷ vs) rest = Mark 44 ∷ Word (type_text v.ty) ∷ Word v.name ∷ more_params vs rest

abbrev pub param_tokens : List CVar → List Token → List Token
param_tokens [] rest = Word (codes "void") ∷ rest
param_tokens (v ∷ vs) rest = Word (type_text v.ty) ∷ Word v.name ∷ more_params vs rest

abbrev pub local_tokens : List CVar → List Token → List Token
local_tokens [] rest = rest
local_tokens (v ∷ vs) rest = Word (type_text v.ty) ∷ Word v.name ∷ Mark 59 ∷ local_tokens vs rest

abbrev pub item_tokens : Item → List Token → List Token
item_tokens (external v) rest = Word (codes "extern") ∷ Word (type_text v.ty) ∷ Word v.name ∷ Mark 59 ∷ rest
item_tokens (global v) rest = Word (type_text v.ty) ∷ Word v.name ∷ Mark 59 ∷ rest
item_tokens (declared t name params) rest = Word (type_text t) ∷ Word name ∷ Mark 40 ∷ type_tokens params (Mark 41 ∷ Mark 59 ∷ rest)
item_tokens (defined f) rest =
    Word (type_text f.result) ∷ Word f.name ∷ Mark 40 ∷ param_tokens f.params (Mark 41 ∷ Mark 123 ∷ local_tokens f.locals (code_tokens f.code (Mark 125 ∷ rest)))

abbrev pub items_tokens : List Item → List Token → List Token
items_tokens [] rest = rest
items_tokens (i ∷ is) rest = item_tokens i (items_tokens is rest)

-- Names -------------------------------------------------------------------------------------

abbrev pub NamedAtom : CAtom → Type 0
NamedAtom (atom.Int n) = IsFixnum n
NamedAtom (atom.Name x) = IsTrue (is_variable_name x)
NamedAtom (atom.Sym x) = IsTrue (is_symbol_name x)
NamedAtom _ = Unit {0}

abbrev pub NamedArgument : CArg → Type 0
NamedArgument (arg.Atom a) = NamedAtom a
NamedArgument (arg.Str text) = Unit {0}
NamedArgument (arg.Entry name) = IsTrue (is_entry_name name)

abbrev pub NamedArguments : List CArg → Type 0
NamedArguments [] = Unit {0}
NamedArguments (a ∷ others) = NamedArgument a × NamedArguments others

abbrev pub NamedCallee : Callee → Type 0
NamedCallee (callee.Fun name) = IsTrue (is_function_name name)
NamedCallee (callee.Op op) = Unit {0}

abbrev pub NamedCall : CCall → Type 0
NamedCall c = NamedCallee c.callee × NamedArguments c.args

abbrev pub NamedExpr : CExpr → Type 0
NamedExpr (expr.Atom a) = NamedAtom a
NamedExpr (expr.Call c) = NamedCall c

abbrev pub NamedCode : Code → Type 0
NamedCode done = Unit {0}
NamedCode (assign x e next) = IsTrue (is_variable_name x) × NamedExpr e × NamedCode next
NamedCode (call c next) = NamedCall c × NamedCode next
NamedCode (return e next) = NamedExpr e × NamedCode next
NamedCode (test e a b next) = NamedExpr e × NamedCode a × NamedCode b × NamedCode next
NamedCode (loop l body next) = IsTrue (is_label_name l) × NamedCode body × NamedCode next
NamedCode (ended body l next) = NamedCode body × IsTrue (is_end_label_name l) × NamedCode next
NamedCode (goto l next) = IsTrue (is_target_name l) × NamedCode next
NamedCode (catch k r body next) = IsTrue (is_local_name k) × IsTrue (is_local_name r) × NamedCode body × NamedCode next
NamedCode (protect a b next) = NamedCode a × NamedCode b × NamedCode next

-- Pieces -----------------------------------------------------------------------------------

abbrev pub piece_tokens : Piece → List Token → List Token
piece_tokens (piece.Assign x e) rest = Word x ∷ Mark 61 ∷ expr_tokens e (Mark 59 ∷ rest)
piece_tokens (piece.Call c) rest = call_tokens c (Mark 59 ∷ rest)
piece_tokens (piece.Return e) rest = Word (codes "return") ∷ expr_tokens e (Mark 59 ∷ rest)
piece_tokens (piece.If e) rest = Word (codes "if") ∷ Mark 40 ∷ expr_tokens e (Mark 41 ∷ Mark 123 ∷ rest)
piece_tokens piece.Else rest = Mark 125 ∷ Word (codes "else") ∷ Mark 123 ∷ rest
piece_tokens (piece.Loop l) rest = Word l ∷ Mark 58 ∷ Word (codes "for") ∷ Mark 40 ∷ Mark 59 ∷ Mark 59 ∷ Mark 41 ∷ Mark 123 ∷ rest
piece_tokens piece.Begin rest = Mark 123 ∷ rest
piece_tokens (piece.Ended l) rest = Mark 125 ∷ Word l ∷ Mark 58 ∷ Mark 59 ∷ rest
piece_tokens (piece.Goto l) rest = Word (codes "goto") ∷ Word l ∷ Mark 59 ∷ rest
piece_tokens (piece.Catch k r) rest = Word (codes "BGL_CATCH") ∷ Mark 40 ∷ Word k ∷ Mark 44 ∷ Word r ∷ Mark 41 ∷ Mark 123 ∷ rest
piece_tokens piece.Protect rest = Word (codes "BGL_PROTECT") ∷ Mark 123 ∷ rest
piece_tokens piece.Cleanup rest = Mark 125 ∷ Mark 123 ∷ rest
piece_tokens piece.End rest = Mark 125 ∷ rest

-- the tokens of a block's statements are those of its pieces
abbrev pub pieces_tokens : List Piece → List Token → List Token
pieces_tokens [] rest = rest
pieces_tokens (p ∷ ps) rest = piece_tokens p (pieces_tokens ps rest)

abbrev pub NamedPiece : Piece → Type 0
NamedPiece (piece.Assign x e) = IsTrue (is_variable_name x) × NamedExpr e
NamedPiece (piece.Call c) = NamedCall c
NamedPiece (piece.Return e) = NamedExpr e
NamedPiece (piece.If e) = NamedExpr e
NamedPiece piece.Else = Unit {0}
NamedPiece (piece.Loop l) = IsTrue (is_label_name l)
NamedPiece piece.Begin = Unit {0}
NamedPiece (piece.Ended l) = IsTrue (is_end_label_name l)
NamedPiece (piece.Goto l) = IsTrue (is_target_name l)
NamedPiece (piece.Catch k r) = IsTrue (is_local_name k) × IsTrue (is_local_name r)
NamedPiece piece.Protect = Unit {0}
NamedPiece piece.Cleanup = Unit {0}
NamedPiece piece.End = Unit {0}

abbrev pub NamedPieces : List Piece → Type 0
NamedPieces [] = Unit {0}
NamedPieces (p ∷ ps) = NamedPiece p × NamedPieces ps

-- Items ------------------------------------------------------------------------------------

abbrev pub NamedVars : List CVar → Type 0
NamedVars [] = Unit {0}
NamedVars (v ∷ vs) = IsTrue (is_local_name v.name) × NamedVars vs

abbrev pub NamedItem : Item → Type 0
NamedItem (external v) = IsTrue (is_global_name v.name)
NamedItem (global v) = IsTrue (is_global_name v.name)
NamedItem (declared t name params) = IsTrue (is_function_name name)
NamedItem (defined f) = IsTrue (is_function_name f.name) × NamedVars f.params × NamedVars f.locals × NamedCode f.code

abbrev pub NamedItems : List Item → Type 0
NamedItems [] = Unit {0}
NamedItems (i ∷ is) = NamedItem i × NamedItems is

-- the bytes are a text of these items: of a unit, or of a program
pub record CText (bytes : List ℕ) (items : List Item) : Type 0 where
  pub spelled : tokens bytes ≡ items_tokens items []
  pub named : NamedItems items
