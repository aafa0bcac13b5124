-- The classes of words: what each spelling is read as, and what it isn't.
use Rattle.std.proofs.Common.{◌≡◌, ℕ, List, [], ◌∷◌, Bool, true, false, Some, None, refl, sym, ap, subst, ◌∙◌, codes}
use Rattle.std.specs.Prelude.{◌||◌, Result, Ok, Err, IfOk}
use Rattle.c_read.specs.declared.stop.Stop.{Stop}
use Rattle.std.specs.Option.{is_some}
use Rattle.std.proofs.lemmas.Slice.Eq.{bytes_eq-Decides}
use Rattle.scheme_data.specs.Decimal.{number_text}
use Rattle.c_tree.specs.declared.tree.CTy.{CTy}
use Rattle.c_tree.specs.declared.tree.CTy.TheVariants as ty
use Rattle.c_tree.specs.declared.tree.CAtom.{CAtom}
use Rattle.c_tree.specs.declared.tree.CAtom.TheVariants as atom
use Rattle.c_tree.specs.declared.tree.Callee.{Callee}
use Rattle.c_tree.specs.declared.tree.Callee.TheVariants as callee
use Rattle.c_tree.specs.declared.op.Op.{Op}
use Rattle.c_tree.specs.Lexical.{Token, Word, Mark}
use Rattle.c_tree.specs.declared.pieces.Piece.{Piece}
use Rattle.c_tree.specs.declared.pieces.Piece.TheVariants as piece
use Rattle.c_tree.specs.Operations.{op_text, op_named}
use Rattle.c_tree.proofs.OpNames.{op_named-op_text}
use Rattle.c_tree.specs.Names.{is_function_name, is_variable_name, is_global_name, is_symbol_name, is_local_name, is_label_name, is_end_label_name, is_main, is_module_function, is_entry_name, is_maker_name, is_initializer_name}
use Rattle.c_tree.specs.Spelling.{type_text, atom_text, callee_text, argument_tokens, expr_tokens, piece_tokens, pieces_tokens, NamedAtom, NamedCallee, NamedPiece, NamedPieces}
use Rattle.c_words.specs.declared.kind.WordKind.{WordKind}
use Rattle.c_words.specs.declared.kind.WordKind.TheVariants as word
use Rattle.c_words.specs.Kinds.{fixed_kind, word_kind}
use Rattle.c_read.specs.Words.{type_in, type_of, atom_in, atom_of, callee_in, callee_of, is_return, is_if, is_goto, is_catch, is_protect}
use Rattle.scheme_data.specs.Names.{is_same}
use Rattle.c_read.specs.Sequences.{is_first, Finds}
use Rattle.c_read.specs.Productions.{is_type}
use Rattle.c_read.proofs.WordKinds.{WordOf, word_of, number_word, symbol_word, label_word, operation_word, VariableWord, a_local, a_global, variable_word, FunctionWord, an_entry, a_function, any_function_word}
use Rattle.c_read.proofs.Heads.{function_group, no_global}

pub type_of_text : (t : CTy) → type_of (type_text t) ≡ Some t
unfolding type_of word_kind fixed_kind is_local_name is_label_name is_end_label_name is_symbol_name is_global_name is_entry_name is_function_name is_module_function is_maker_name is_initializer_name
type_of_text ty.Obj = refl
type_of_text ty.Long = refl
type_of_text ty.Char = refl
type_of_text ty.Int = refl

-- Atoms -------------------------------------------------------------------------------------

of_variable : (x : List ℕ) {k : WordKind} → VariableWord k → atom_in x k ≡ Some (atom.Name x)
of_variable x a_local = refl
of_variable x a_global = refl

pub atom_of_text : (a : CAtom) → NamedAtom a → atom_of (atom_text a) ≡ Some a
unfolding atom_of word_kind fixed_kind is_local_name is_label_name is_end_label_name is_symbol_name is_global_name is_entry_name is_function_name is_module_function is_maker_name is_initializer_name
atom_of_text (atom.Int n) h = ap (atom_in (number_text n)) (number_word n h)
atom_of_text (atom.Name x) h = of_variable x (variable_word x h)
atom_of_text (atom.Sym x) h = ap (atom_in x) (symbol_word x h)
atom_of_text atom.False h = refl
atom_of_text atom.True h = refl
atom_of_text atom.Nil h = refl
atom_of_text atom.Unspec h = refl
atom_of_text atom.Eof h = refl

-- Callees -----------------------------------------------------------------------------------

of_function : (x : List ℕ) {k : WordKind} → FunctionWord k → callee_in x k ≡ Some (callee.Fun x)
of_function x an_entry = refl
of_function x a_function = refl

pub callee_of_text : (c : Callee) → NamedCallee c → callee_of (callee_text c) ≡ Some c
unfolding callee_of
callee_of_text (callee.Fun name) h = of_function name (any_function_word name h)
callee_of_text (callee.Op op) h = ap (callee_in (op_text op)) (operation_word op)

-- Back from what a word says -----------------------------------------------------------------

pub type_back : (w : List ℕ) (t : CTy) → type_of w ≡ Some t → w ≡ type_text t
unfolding type_of
type_back w t e = go (word_kind w) (word_of w) e
  where
    go : (k : WordKind) → WordOf k w → type_in k ≡ Some t → w ≡ type_text t
    go (word.Type u) is e = let same : u ≡ t = cc in is ∙ ap type_text same
    go word.Void is e = absurd (cc)
    go word.Extern is e = absurd (cc)
    go word.Return is e = absurd (cc)
    go word.If is e = absurd (cc)
    go word.Else is e = absurd (cc)
    go word.For is e = absurd (cc)
    go word.Goto is e = absurd (cc)
    go word.Catch is e = absurd (cc)
    go word.Protect is e = absurd (cc)
    go word.False is e = absurd (cc)
    go word.True is e = absurd (cc)
    go word.Nil is e = absurd (cc)
    go word.Unspec is e = absurd (cc)
    go word.Eof is e = absurd (cc)
    go word.Local is e = absurd (cc)
    go word.Label is e = absurd (cc)
    go word.EndLabel is e = absurd (cc)
    go word.Symbol is e = absurd (cc)
    go word.Global is e = absurd (cc)
    go word.Entry is e = absurd (cc)
    go word.Function is e = absurd (cc)
    go (word.Number n) is e = absurd (cc)
    go (word.Operation op) is e = absurd (cc)
    go word.Other is e = absurd (cc)

abbrev pub IsAtomOf : List ℕ → CAtom → Type 0
IsAtomOf w a = (w ≡ atom_text a) × NamedAtom a

pub atom_back : (w : List ℕ) (a : CAtom) → atom_of w ≡ Some a → IsAtomOf w a
unfolding atom_of is_variable_name
atom_back w a e = go (word_kind w) (word_of w) e
  where
    same : (b : CAtom) → Some b ≡ Some a → IsAtomOf w b → IsAtomOf w a
    same b q is = subst (IsAtomOf w) (cc q) is

    second : (x : Bool) → is_global_name w ≡ true → (x || is_global_name w) ≡ true
    second true e = refl
    second false e = e

    go : (k : WordKind) → WordOf k w → atom_in w k ≡ Some a → IsAtomOf w a
    go word.Local is e = same (atom.Name w) e (refl, ap (λ b. b || is_global_name w) is)
    go word.Global is e = same (atom.Name w) e (refl, second (is_local_name w) is)
    go word.Symbol is e = same (atom.Sym w) e (refl, is)
    go (word.Number n) is e = same (atom.Int n) e (sym is.1, is.0)
    go word.False is e = same atom.False e (is, tt)
    go word.True is e = same atom.True e (is, tt)
    go word.Nil is e = same atom.Nil e (is, tt)
    go word.Unspec is e = same atom.Unspec e (is, tt)
    go word.Eof is e = same atom.Eof e (is, tt)
    go (word.Type t) is e = absurd (cc)
    go word.Void is e = absurd (cc)
    go word.Extern is e = absurd (cc)
    go word.Return is e = absurd (cc)
    go word.If is e = absurd (cc)
    go word.Else is e = absurd (cc)
    go word.For is e = absurd (cc)
    go word.Goto is e = absurd (cc)
    go word.Catch is e = absurd (cc)
    go word.Protect is e = absurd (cc)
    go word.Label is e = absurd (cc)
    go word.EndLabel is e = absurd (cc)
    go word.Entry is e = absurd (cc)
    go word.Function is e = absurd (cc)
    go (word.Operation op) is e = absurd (cc)
    go word.Other is e = absurd (cc)

abbrev pub IsCalleeOf : List ℕ → Callee → Type 0
IsCalleeOf w c = (w ≡ callee_text c) × NamedCallee c

pub entry_is_function : (w : List ℕ) → is_entry_name w ≡ true → is_function_name w ≡ true
unfolding is_function_name
entry_is_function w e = by (is_module_function w)
  where
    by : (b : Bool) → (b || (is_entry_name w || (is_maker_name w || (is_initializer_name w || is_main w)))) ≡ true
    by true = refl
    by false = ap (λ b. b || (is_maker_name w || (is_initializer_name w || is_main w))) e

pub callee_back : (w : List ℕ) (c : Callee) → callee_of w ≡ Some c → IsCalleeOf w c
unfolding callee_of
callee_back w c e = go (word_kind w) (word_of w) e
  where
    same : (b : Callee) → Some b ≡ Some c → IsCalleeOf w b → IsCalleeOf w c
    same b q is = subst (IsCalleeOf w) (cc q) is

    go : (k : WordKind) → WordOf k w → callee_in w k ≡ Some c → IsCalleeOf w c
    go word.Entry is e = same (callee.Fun w) e (refl, entry_is_function w is)
    go word.Function is e = same (callee.Fun w) e (refl, is)
    go (word.Operation op) is e = same (callee.Op op) e (is, tt)
    go (word.Type t) is e = absurd (cc)
    go word.Void is e = absurd (cc)
    go word.Extern is e = absurd (cc)
    go word.Return is e = absurd (cc)
    go word.If is e = absurd (cc)
    go word.Else is e = absurd (cc)
    go word.For is e = absurd (cc)
    go word.Goto is e = absurd (cc)
    go word.Catch is e = absurd (cc)
    go word.Protect is e = absurd (cc)
    go word.False is e = absurd (cc)
    go word.True is e = absurd (cc)
    go word.Nil is e = absurd (cc)
    go word.Unspec is e = absurd (cc)
    go word.Eof is e = absurd (cc)
    go word.Local is e = absurd (cc)
    go word.Label is e = absurd (cc)
    go word.EndLabel is e = absurd (cc)
    go word.Symbol is e = absurd (cc)
    go word.Global is e = absurd (cc)
    go (word.Number n) is e = absurd (cc)
    go word.Other is e = absurd (cc)

-- what code answers that finds one
pub atom_spelled : (w : List ℕ) (k : WordKind) (r : Result CAtom Stop) → k ≡ word_kind w → Finds (atom_in w k) r → IfOk r (IsAtomOf w)
unfolding atom_of
atom_spelled w k (Ok a) is e = atom_back w a (ap (atom_in w) (sym is) ∙ e)
atom_spelled w k (Err s) is e = tt

pub callee_spelled : (w : List ℕ) (k : WordKind) (r : Result Callee Stop) → k ≡ word_kind w → Finds (callee_in w k) r → IfOk r (IsCalleeOf w)
unfolding callee_of
callee_spelled w k (Ok c) is e = callee_back w c (ap (callee_in w) (sym is) ∙ e)
callee_spelled w k (Err s) is e = tt

-- What a word isn't -------------------------------------------------------------------------

apart : (f : List ℕ → Bool) (word text : List ℕ) → f text ≡ false → f word ≡ true → is_same word text ≡ false
apart f word text n y = go (is_same word text) refl
  where
    go : (b : Bool) → is_same word text ≡ b → b ≡ false
    go true e = let same : word ≡ text = (bytes_eq-Decides word text).0 e in let k : f word ≡ f text = ap f same in cc
    go false e = refl

-- a word that names something: it is no type, and begins no statement of its own
pub record Plain (word : List ℕ) : Type 0 where
  pub no_type : type_of word ≡ None
  pub no_return : is_return word ≡ false
  pub no_if : is_if word ≡ false
  pub no_goto : is_goto word ≡ false
  pub no_catch : is_catch word ≡ false
  pub no_protect : is_protect word ≡ false

-- a test that fails on each word of the grammar
record Keyless (f : List ℕ → Bool) : Type 0 where
  on_return : f (codes "return") ≡ false
  on_if : f (codes "if") ≡ false
  on_goto : f (codes "goto") ≡ false
  on_catch : f (codes "BGL_CATCH") ≡ false
  on_protect : f (codes "BGL_PROTECT") ≡ false

plain : (f : List ℕ → Bool) (word : List ℕ) → Keyless f → f word ≡ true → type_of word ≡ None → Plain word
plain f word k y none = record {
  no_type = none;
  no_return = apart f word (codes "return") k.on_return y;
  no_if = apart f word (codes "if") k.on_if y;
  no_goto = apart f word (codes "goto") k.on_goto y;
  no_catch = apart f word (codes "BGL_CATCH") k.on_catch y;
  no_protect = apart f word (codes "BGL_PROTECT") k.on_protect y;
}

variable_no_type : (x : List ℕ) → is_variable_name x ≡ true → type_of x ≡ None
unfolding type_of
variable_no_type x h = go (variable_word x h)
  where
    go : {k : WordKind} → VariableWord k → type_in k ≡ None
    go a_local = refl
    go a_global = refl

label_no_type : (l : List ℕ) → is_label_name l ≡ true → type_of l ≡ None
unfolding type_of
label_no_type l h = ap type_in (label_word l h)

function_no_type : (name : List ℕ) → is_function_name name ≡ true → type_of name ≡ None
unfolding type_of
function_no_type name h = go (any_function_word name h)
  where
    go : {k : WordKind} → FunctionWord k → type_in k ≡ None
    go an_entry = refl
    go a_function = refl

op_no_type : (op : Op) → type_of (op_text op) ≡ None
unfolding type_of
op_no_type op = ap type_in (operation_word op)

pub variable_plain : (x : List ℕ) → is_variable_name x ≡ true → Plain x
unfolding is_variable_name is_local_name is_global_name
variable_plain x h = plain is_variable_name x (record { on_return = refl; on_if = refl; on_goto = refl; on_catch = refl; on_protect = refl }) h (variable_no_type x h)

pub label_plain : (l : List ℕ) → is_label_name l ≡ true → Plain l
unfolding is_label_name
label_plain l h = plain is_label_name l (record { on_return = refl; on_if = refl; on_goto = refl; on_catch = refl; on_protect = refl }) h (label_no_type l h)

function_plain : (name : List ℕ) → is_function_name name ≡ true → Plain name
unfolding is_function_name is_module_function is_entry_name is_maker_name is_initializer_name
function_plain name h = plain is_function_name name (record { on_return = refl; on_if = refl; on_goto = refl; on_catch = refl; on_protect = refl }) h (function_no_type name h)

is_operation : List ℕ → Bool
is_operation word = is_some (op_named word)

op_plain : (op : Op) → Plain (op_text op)
unfolding op_named is_operation
op_plain op = plain is_operation (op_text op) (record { on_return = refl; on_if = refl; on_goto = refl; on_catch = refl; on_protect = refl }) (ap is_some (op_named-op_text op)) (op_no_type op)

pub callee_plain : (c : Callee) → NamedCallee c → Plain (callee_text c)
callee_plain (callee.Fun name) h = function_plain name h
callee_plain (callee.Op op) h = op_plain op

pub function_no_global : (name : List ℕ) → is_function_name name ≡ true → is_global_name name ≡ false
function_no_global name h = no_global name 6 (function_group name h) refl

-- What begins a piece -----------------------------------------------------------------------

-- no type is first
abbrev NoType : List Token → Type 0
NoType ts = is_first is_type ts ≡ false

begins : (word : List ℕ) (rest : List Token) → Plain word → NoType (Word word ∷ rest)
begins word rest p = ap is_some p.no_type

piece_begins : (p : Piece) (rest : List Token) → NamedPiece p → NoType (piece_tokens p rest)
unfolding type_of word_kind fixed_kind is_local_name is_label_name is_end_label_name is_symbol_name is_global_name is_entry_name is_function_name is_module_function is_maker_name is_initializer_name
piece_begins (piece.Assign x e) rest h = begins x (Mark 61 ∷ expr_tokens e (Mark 59 ∷ rest)) (variable_plain x h.0)
piece_begins (piece.Call c) rest h = begins (callee_text c.callee) (Mark 40 ∷ argument_tokens c.args (Mark 41 ∷ Mark 59 ∷ rest)) (callee_plain c.callee h.0)
piece_begins (piece.Return e) rest h = refl
piece_begins (piece.If e) rest h = refl
piece_begins piece.Else rest h = refl
piece_begins (piece.Loop l) rest h = begins l (Mark 58 ∷ Word (codes "for") ∷ Mark 40 ∷ Mark 59 ∷ Mark 59 ∷ Mark 41 ∷ Mark 123 ∷ rest) (label_plain l h)
piece_begins piece.Begin rest h = refl
piece_begins (piece.Ended l) rest h = refl
piece_begins (piece.Goto l) rest h = refl
piece_begins (piece.Catch k r) rest h = refl
piece_begins piece.Protect rest h = refl
piece_begins piece.Cleanup rest h = refl
piece_begins piece.End rest h = refl

-- to a closing brace
pub pieces_no_type : (ps : List Piece) (rest : List Token) → NamedPieces ps → NoType (pieces_tokens ps (Mark 125 ∷ rest))
pieces_no_type [] rest h = refl
pieces_no_type (p ∷ ps) rest h = piece_begins p (pieces_tokens ps (Mark 125 ∷ rest)) h.0
