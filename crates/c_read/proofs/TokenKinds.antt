-- What the tokens of each kind are.
use Rattle.std.proofs.Common.{◌≡◌, ℕ, List, Bool, true, false, if◌then◌else◌, nat_eq, codes, refl, sym, ap, subst, ◌∙◌, ◌||◌}
use Rattle.std.specs.Prelude.{ℤ}
use Rattle.std.proofs.lemmas.Bool.{eqb-true, eq-eqb}
use Rattle.scheme_data.specs.Fixnum.{IsFixnum}
use Rattle.scheme_data.specs.Decimal.{number_text}
use Rattle.c_tree.specs.declared.tree.CTy.{CTy}
use Rattle.c_tree.specs.declared.tree.CTy.TheVariants as ty
use Rattle.c_tree.specs.declared.tree.CAtom.{CAtom}
use Rattle.c_tree.specs.declared.tree.CAtom.TheVariants as atom
use Rattle.c_tree.specs.declared.tree.Callee.{Callee}
use Rattle.c_tree.specs.declared.tree.Callee.TheVariants as callee
use Rattle.c_tree.specs.declared.op.Op.{Op}
use Rattle.c_tree.specs.Lexical.{Token, Word, Mark, Str, Bad}
use Rattle.c_tree.specs.Operations.{op_text}
use Rattle.c_tree.specs.Names.{is_function_name, is_variable_name, is_entry_name, is_global_name, is_symbol_name, is_local_name, is_label_name, is_end_label_name, is_target_name, is_module_function, is_maker_name, is_initializer_name}
use Rattle.c_tree.specs.Spelling.{type_text, atom_text, callee_text, NamedAtom, NamedCallee}
use Rattle.c_read.specs.declared.kinds.Kind.{Kind}
use Rattle.c_read.specs.declared.kinds.Kind.TheVariants as kind
use Rattle.c_words.specs.declared.kind.WordKind.{WordKind}
use Rattle.c_words.specs.declared.kind.WordKind.TheVariants as word
use Rattle.c_words.specs.Kinds.{fixed_kind, word_kind}
use Rattle.c_read.specs.Kinds.{code, same_kind, coarse, kind_of, mark_kind, token_kind}
use Rattle.c_read.proofs.WordKinds.{WordOf, word_of, local_word, label_word, end_label_word, symbol_word, global_word, entry_word, function_word, number_word, operation_word}

-- Kinds are told apart by their codes

kind_at : ℕ → Kind
kind_at n =
    if nat_eq n 0 then kind.Type
    else (if nat_eq n 1 then kind.Void
    else (if nat_eq n 2 then kind.Extern
    else (if nat_eq n 3 then kind.Return
    else (if nat_eq n 4 then kind.If
    else (if nat_eq n 5 then kind.Else
    else (if nat_eq n 6 then kind.For
    else (if nat_eq n 7 then kind.Goto
    else (if nat_eq n 8 then kind.Catch
    else (if nat_eq n 9 then kind.Protect
    else (if nat_eq n 10 then kind.Local
    else (if nat_eq n 11 then kind.Global
    else (if nat_eq n 12 then kind.Value
    else (if nat_eq n 13 then kind.Function
    else (if nat_eq n 14 then kind.Entry
    else (if nat_eq n 15 then kind.Operation
    else (if nat_eq n 16 then kind.Label
    else (if nat_eq n 17 then kind.EndLabel
    else (if nat_eq n 18 then kind.And
    else (if nat_eq n 19 then kind.OpenParen
    else (if nat_eq n 20 then kind.CloseParen
    else (if nat_eq n 21 then kind.Comma
    else (if nat_eq n 22 then kind.Colon
    else (if nat_eq n 23 then kind.Semicolon
    else (if nat_eq n 24 then kind.Equals
    else (if nat_eq n 25 then kind.OpenBrace
    else (if nat_eq n 26 then kind.CloseBrace
    else (if nat_eq n 27 then kind.Quoted
    else kind.Other)))))))))))))))))))))))))))

at_code : (k : Kind) → kind_at (code k) ≡ k
unfolding kind_at
at_code kind.Type = refl
at_code kind.Void = refl
at_code kind.Extern = refl
at_code kind.Return = refl
at_code kind.If = refl
at_code kind.Else = refl
at_code kind.For = refl
at_code kind.Goto = refl
at_code kind.Catch = refl
at_code kind.Protect = refl
at_code kind.Local = refl
at_code kind.Global = refl
at_code kind.Value = refl
at_code kind.Function = refl
at_code kind.Entry = refl
at_code kind.Operation = refl
at_code kind.Label = refl
at_code kind.EndLabel = refl
at_code kind.And = refl
at_code kind.OpenParen = refl
at_code kind.CloseParen = refl
at_code kind.Comma = refl
at_code kind.Colon = refl
at_code kind.Semicolon = refl
at_code kind.Equals = refl
at_code kind.OpenBrace = refl
at_code kind.CloseBrace = refl
at_code kind.Quoted = refl
at_code kind.Other = refl

pub same_kind_is : (a b : Kind) → same_kind a b ≡ true → a ≡ b
same_kind_is a b e = sym (at_code a) ∙ ap kind_at (eqb-true (code a) (code b) e) ∙ at_code b

pub kind_is_same : (k : Kind) → same_kind k k ≡ true
kind_is_same k = eq-eqb (code k) (code k) refl

-- Back from a kind --------------------------------------------------------------------------

pub record NameToken (f : List ℕ → Bool) (t : Token) : Type 0 where
  pub name : List ℕ
  pub is : t ≡ Word name
  pub named : f name ≡ true

pub record TypeToken (t : Token) : Type 0 where
  pub ty : CTy
  pub is : t ≡ Word (type_text ty)

pub record AtomToken (t : Token) : Type 0 where
  pub atom : CAtom
  pub is : t ≡ Word (atom_text atom)
  pub named : NamedAtom atom

pub record OperationToken (t : Token) : Type 0 where
  pub op : Op
  pub is : t ≡ Word (op_text op)

pub record TextToken (t : Token) : Type 0 where
  pub text : List ℕ
  pub is : t ≡ Str text

-- a token of a kind
abbrev pub TokenOf : Kind → Token → Type 0
TokenOf kind.Type t = TypeToken t
TokenOf kind.Void t = t ≡ Word (codes "void")
TokenOf kind.Extern t = t ≡ Word (codes "extern")
TokenOf kind.Return t = t ≡ Word (codes "return")
TokenOf kind.If t = t ≡ Word (codes "if")
TokenOf kind.Else t = t ≡ Word (codes "else")
TokenOf kind.For t = t ≡ Word (codes "for")
TokenOf kind.Goto t = t ≡ Word (codes "goto")
TokenOf kind.Catch t = t ≡ Word (codes "BGL_CATCH")
TokenOf kind.Protect t = t ≡ Word (codes "BGL_PROTECT")
TokenOf kind.Local t = NameToken is_local_name t
TokenOf kind.Global t = NameToken is_global_name t
TokenOf kind.Value t = AtomToken t
TokenOf kind.Function t = NameToken is_function_name t
TokenOf kind.Entry t = NameToken is_entry_name t
TokenOf kind.Operation t = OperationToken t
TokenOf kind.Label t = NameToken is_label_name t
TokenOf kind.EndLabel t = NameToken is_end_label_name t
TokenOf kind.And t = t ≡ Mark 38
TokenOf kind.OpenParen t = t ≡ Mark 40
TokenOf kind.CloseParen t = t ≡ Mark 41
TokenOf kind.Comma t = t ≡ Mark 44
TokenOf kind.Colon t = t ≡ Mark 58
TokenOf kind.Semicolon t = t ≡ Mark 59
TokenOf kind.Equals t = t ≡ Mark 61
TokenOf kind.OpenBrace t = t ≡ Mark 123
TokenOf kind.CloseBrace t = t ≡ Mark 125
TokenOf kind.Quoted t = TextToken t
TokenOf kind.Other t = Unit {0}

-- the first that holds
chosen : (t : Token) (b : Bool) (k rest : Kind) → (b ≡ true → TokenOf k t) → TokenOf rest t → TokenOf (if b then k else rest) t
chosen t true k rest here there = here refl
chosen t false k rest here there = there

named : (f : List ℕ → Bool) (w : List ℕ) → f w ≡ true → NameToken f (Word w)
named f w e = record { name = w; is = refl; named = e }

constant : (w : List ℕ) (a : CAtom) → NamedAtom a → w ≡ atom_text a → AtomToken (Word w)
constant w a n e = record { atom = a; is = ap Word e; named = n }

word_means : (w : List ℕ) (k : WordKind) → WordOf k w → TokenOf (coarse k) (Word w)
word_means w (word.Type t) e = record { ty = t; is = ap Word e }
word_means w word.Void e = ap Word e
word_means w word.Extern e = ap Word e
word_means w word.Return e = ap Word e
word_means w word.If e = ap Word e
word_means w word.Else e = ap Word e
word_means w word.For e = ap Word e
word_means w word.Goto e = ap Word e
word_means w word.Catch e = ap Word e
word_means w word.Protect e = ap Word e
word_means w word.False e = constant w atom.False tt e
word_means w word.True e = constant w atom.True tt e
word_means w word.Nil e = constant w atom.Nil tt e
word_means w word.Unspec e = constant w atom.Unspec tt e
word_means w word.Eof e = constant w atom.Eof tt e
word_means w word.Local e = named is_local_name w e
word_means w word.Label e = named is_label_name w e
word_means w word.EndLabel e = named is_end_label_name w e
word_means w word.Global e = named is_global_name w e
word_means w word.Entry e = named is_entry_name w e
word_means w word.Function e = named is_function_name w e
word_means w word.Symbol e = record { atom = atom.Sym w; is = refl; named = e }
word_means w (word.Number n) e = record { atom = atom.Int n; is = ap Word (sym e.1); named = e.0 }
word_means w (word.Operation op) e = record { op = op; is = ap Word e }
word_means w word.Other e = tt

mark_means : (m : ℕ) → TokenOf (mark_kind m) (Mark m)
mark_means m =
    let t = Mark m in
    let is : (n : ℕ) → nat_eq m n ≡ true → Mark m ≡ Mark n = λ n e. ap Mark (eqb-true m n e) in
    chosen t (nat_eq m 38) kind.And _ (is 38)
    (chosen t (nat_eq m 40) kind.OpenParen _ (is 40)
    (chosen t (nat_eq m 41) kind.CloseParen _ (is 41)
    (chosen t (nat_eq m 44) kind.Comma _ (is 44)
    (chosen t (nat_eq m 58) kind.Colon _ (is 58)
    (chosen t (nat_eq m 59) kind.Semicolon _ (is 59)
    (chosen t (nat_eq m 61) kind.Equals _ (is 61)
    (chosen t (nat_eq m 123) kind.OpenBrace _ (is 123)
    (chosen t (nat_eq m 125) kind.CloseBrace kind.Other (is 125) tt))))))))

-- each token is of its kind
pub means : (t : Token) → TokenOf (token_kind t) t
unfolding kind_of
means (Word w) = word_means w (word_kind w) (word_of w)
means (Mark m) = mark_means m
means (Str text) = record { text = text; is = refl }
means Bad = tt

-- Forward to a kind -------------------------------------------------------------------------

pub local_kind : (w : List ℕ) → is_local_name w ≡ true → kind_of w ≡ kind.Local
unfolding kind_of
local_kind w e = ap coarse (local_word w e)

pub label_kind : (w : List ℕ) → is_label_name w ≡ true → kind_of w ≡ kind.Label
unfolding kind_of
label_kind w e = ap coarse (label_word w e)

pub end_label_kind : (w : List ℕ) → is_end_label_name w ≡ true → kind_of w ≡ kind.EndLabel
unfolding kind_of
end_label_kind w e = ap coarse (end_label_word w e)

pub symbol_kind : (w : List ℕ) → is_symbol_name w ≡ true → kind_of w ≡ kind.Value
unfolding kind_of
symbol_kind w e = ap coarse (symbol_word w e)

pub global_kind : (w : List ℕ) → is_global_name w ≡ true → kind_of w ≡ kind.Global
unfolding kind_of
global_kind w e = ap coarse (global_word w e)

pub entry_kind : (w : List ℕ) → is_entry_name w ≡ true → kind_of w ≡ kind.Entry
unfolding kind_of
entry_kind w e = ap coarse (entry_word w e)

-- Words of the grammar, by computation

pub false_kind : kind_of (codes "BGL_FALSE") ≡ kind.Value
unfolding kind_of word_kind fixed_kind is_local_name is_label_name is_end_label_name is_symbol_name is_global_name is_entry_name is_function_name is_module_function is_maker_name is_initializer_name
false_kind = refl

pub true_kind : kind_of (codes "BGL_TRUE") ≡ kind.Value
unfolding kind_of word_kind fixed_kind is_local_name is_label_name is_end_label_name is_symbol_name is_global_name is_entry_name is_function_name is_module_function is_maker_name is_initializer_name
true_kind = refl

pub nil_kind : kind_of (codes "BGL_NIL") ≡ kind.Value
unfolding kind_of word_kind fixed_kind is_local_name is_label_name is_end_label_name is_symbol_name is_global_name is_entry_name is_function_name is_module_function is_maker_name is_initializer_name
nil_kind = refl

pub unspec_kind : kind_of (codes "BGL_UNSPEC") ≡ kind.Value
unfolding kind_of word_kind fixed_kind is_local_name is_label_name is_end_label_name is_symbol_name is_global_name is_entry_name is_function_name is_module_function is_maker_name is_initializer_name
unspec_kind = refl

pub eof_kind : kind_of (codes "BGL_EOF") ≡ kind.Value
unfolding kind_of word_kind fixed_kind is_local_name is_label_name is_end_label_name is_symbol_name is_global_name is_entry_name is_function_name is_module_function is_maker_name is_initializer_name
eof_kind = refl

pub void_kind : kind_of (codes "void") ≡ kind.Void
unfolding kind_of word_kind fixed_kind is_local_name is_label_name is_end_label_name is_symbol_name is_global_name is_entry_name is_function_name is_module_function is_maker_name is_initializer_name
void_kind = refl

pub extern_kind : kind_of (codes "extern") ≡ kind.Extern
unfolding kind_of word_kind fixed_kind is_local_name is_label_name is_end_label_name is_symbol_name is_global_name is_entry_name is_function_name is_module_function is_maker_name is_initializer_name
extern_kind = refl

pub return_kind : kind_of (codes "return") ≡ kind.Return
unfolding kind_of word_kind fixed_kind is_local_name is_label_name is_end_label_name is_symbol_name is_global_name is_entry_name is_function_name is_module_function is_maker_name is_initializer_name
return_kind = refl

pub if_kind : kind_of (codes "if") ≡ kind.If
unfolding kind_of word_kind fixed_kind is_local_name is_label_name is_end_label_name is_symbol_name is_global_name is_entry_name is_function_name is_module_function is_maker_name is_initializer_name
if_kind = refl

pub else_kind : kind_of (codes "else") ≡ kind.Else
unfolding kind_of word_kind fixed_kind is_local_name is_label_name is_end_label_name is_symbol_name is_global_name is_entry_name is_function_name is_module_function is_maker_name is_initializer_name
else_kind = refl

pub for_kind : kind_of (codes "for") ≡ kind.For
unfolding kind_of word_kind fixed_kind is_local_name is_label_name is_end_label_name is_symbol_name is_global_name is_entry_name is_function_name is_module_function is_maker_name is_initializer_name
for_kind = refl

pub goto_kind : kind_of (codes "goto") ≡ kind.Goto
unfolding kind_of word_kind fixed_kind is_local_name is_label_name is_end_label_name is_symbol_name is_global_name is_entry_name is_function_name is_module_function is_maker_name is_initializer_name
goto_kind = refl

pub catch_kind : kind_of (codes "BGL_CATCH") ≡ kind.Catch
unfolding kind_of word_kind fixed_kind is_local_name is_label_name is_end_label_name is_symbol_name is_global_name is_entry_name is_function_name is_module_function is_maker_name is_initializer_name
catch_kind = refl

pub protect_kind : kind_of (codes "BGL_PROTECT") ≡ kind.Protect
unfolding kind_of word_kind fixed_kind is_local_name is_label_name is_end_label_name is_symbol_name is_global_name is_entry_name is_function_name is_module_function is_maker_name is_initializer_name
protect_kind = refl

pub type_kind : (t : CTy) → kind_of (type_text t) ≡ kind.Type
unfolding kind_of word_kind fixed_kind is_local_name is_label_name is_end_label_name is_symbol_name is_global_name is_entry_name is_function_name is_module_function is_maker_name is_initializer_name
type_kind ty.Obj = refl
type_kind ty.Long = refl
type_kind ty.Char = refl
type_kind ty.Int = refl

operation_kind : (op : Op) → kind_of (op_text op) ≡ kind.Operation
unfolding kind_of
operation_kind op = ap coarse (operation_word op)

-- Kinds of atoms, of variables and of what is called

pub data AtomKind : Kind → Type 0 where
  a_local : AtomKind kind.Local
  a_global : AtomKind kind.Global
  a_value : AtomKind kind.Value

pub data VariableKind : Kind → Type 0 where
  v_local : VariableKind kind.Local
  v_global : VariableKind kind.Global

-- a function's
pub data FunctionKind : Kind → Type 0 where
  f_entry : FunctionKind kind.Entry
  f_other : FunctionKind kind.Function

pub data CalleeKind : Kind → Type 0 where
  c_entry : CalleeKind kind.Entry
  c_other : CalleeKind kind.Function
  c_operation : CalleeKind kind.Operation

pub data TargetKind : Kind → Type 0 where
  t_label : TargetKind kind.Label
  t_end : TargetKind kind.EndLabel

pub variable_kind : (word : List ℕ) → is_variable_name word ≡ true → VariableKind (kind_of word)
unfolding is_variable_name
variable_kind word e = go (is_local_name word) refl e
  where
    go : (b : Bool) → is_local_name word ≡ b → (b || is_global_name word) ≡ true → VariableKind (kind_of word)
    go true l e = subst VariableKind (sym (local_kind word l)) v_local
    go false l e = subst VariableKind (sym (global_kind word e)) v_global

pub target_kind : (word : List ℕ) → is_target_name word ≡ true → TargetKind (kind_of word)
unfolding is_target_name
target_kind word e = go (is_label_name word) refl e
  where
    go : (b : Bool) → is_label_name word ≡ b → (b || is_end_label_name word) ≡ true → TargetKind (kind_of word)
    go true l e = subst TargetKind (sym (label_kind word l)) t_label
    go false l e = subst TargetKind (sym (end_label_kind word e)) t_end

plain_function_kind : (w : List ℕ) → is_function_name w ≡ true → is_entry_name w ≡ false → kind_of w ≡ kind.Function
unfolding kind_of
plain_function_kind w e n = ap coarse (function_word w e n)

pub function_kind : (word : List ℕ) → is_function_name word ≡ true → FunctionKind (kind_of word)
function_kind word e = go (is_entry_name word) refl
  where
    go : (b : Bool) → is_entry_name word ≡ b → FunctionKind (kind_of word)
    go true n = subst FunctionKind (sym (entry_kind word n)) f_entry
    go false n = subst FunctionKind (sym (plain_function_kind word e n)) f_other

pub callee_of_function : {k : Kind} → FunctionKind k → CalleeKind k
callee_of_function f_entry = c_entry
callee_of_function f_other = c_other

atom_of_variable : {k : Kind} → VariableKind k → AtomKind k
atom_of_variable v_local = a_local
atom_of_variable v_global = a_global

number_kind : (n : ℤ) → IsFixnum n → kind_of (number_text n) ≡ kind.Value
unfolding kind_of
number_kind n fits = ap coarse (number_word n fits)

value_kind : (word : List ℕ) → kind_of word ≡ kind.Value → AtomKind (kind_of word)
value_kind word e = subst AtomKind (sym e) a_value

pub atom_kind : (a : CAtom) → NamedAtom a → AtomKind (kind_of (atom_text a))
atom_kind (atom.Int n) h = value_kind (number_text n) (number_kind n h)
atom_kind (atom.Name x) h = atom_of_variable (variable_kind x h)
atom_kind (atom.Sym x) h = value_kind x (symbol_kind x h)
atom_kind atom.False h = value_kind (codes "BGL_FALSE") false_kind
atom_kind atom.True h = value_kind (codes "BGL_TRUE") true_kind
atom_kind atom.Nil h = value_kind (codes "BGL_NIL") nil_kind
atom_kind atom.Unspec h = value_kind (codes "BGL_UNSPEC") unspec_kind
atom_kind atom.Eof h = value_kind (codes "BGL_EOF") eof_kind

pub callee_kind : (c : Callee) → NamedCallee c → CalleeKind (kind_of (callee_text c))
callee_kind (callee.Fun name) h = callee_of_function (function_kind name h)
callee_kind (callee.Op op) h = subst CalleeKind (sym (operation_kind op)) c_operation
