-- Names of operations, and primitives by their names.
use Rattle.std.proofs.Common.{◌≡◌, ℕ, List, [], ◌∷◌, ◌++◌, find, cond, codes, Bool, true, false, Some, nat_eq, refl, sym, ap, ◌∙◌}
use Rattle.std.specs.Prelude.{◌&&◌, not}
use Rattle.std.specs.List.{list_all}
use Rattle.std.specs.Cmp.Lexicographic.{pointwise, same_text}
use Rattle.std.proofs.lemmas.Bool.{and_parts}
use Rattle.scheme_data.specs.Symbols.{is_symbol, IsSymbol}
use Rattle.scheme_data.proofs.SymbolTests.{symbol_by_test}
use Rattle.prim_table.specs.declared.primitives.Primitive.{Primitive}
use Rattle.prim_table.specs.declared.primitives.Primitive.TheVariants as prim
use Rattle.prim_table.specs.Table.{name_of, primitives}
use Rattle.c_tree.specs.declared.tree.CTy.TheVariants.{Obj, Long, Char, Int}
use Rattle.c_tree.specs.declared.op.Op.{Op}
use Rattle.c_tree.specs.declared.op.Op.TheVariants.{BoxLong, BoxChar, BoxBool, UnboxLong, UnboxChar, UnboxBool, CheckPair, CheckVector, CheckBstring, CheckSymbol, CheckProcedure, Truth, Closure, Env, Cell, Get, Put, Call, Str, Raise, Args, Status, Primitive as Does}
use Rattle.c_tree.specs.Operations.{op_text, is_extern, is_op, operations, op_named}
use Rattle.c_tree.specs.Names.{mangled}

is_text : (word text : List ℕ) → pointwise nat_eq word text ≡ true → word ≡ text
is_text word text e = same_text word text (sym e)

-- a primitive is no extern, and its name is a symbol
abbrev pub is_mangled_so : Primitive → Bool
is_mangled_so p = not (is_extern p) && is_symbol (name_of p)

pub all_mangled_so : list_all is_mangled_so primitives ≡ true
all_mangled_so = refl

pub record MangledSo (p : Primitive) : Type 0 where
  pub text : op_text (Does p) ≡ codes "bgl_p_" ++ mangled (name_of p)
  pub symbol : IsSymbol (name_of p)

pub mangled_so : (p : Primitive) → is_mangled_so p ≡ true → MangledSo p
mangled_so p e =
    let parts = and_parts (not (is_extern p)) (is_symbol (name_of p)) e in
    record { text = by (is_extern p) parts.0; symbol = symbol_by_test (name_of p) parts.1 }
  where
    by : (b : Bool) → not b ≡ true → cond b (name_of p) (codes "bgl_p_" ++ mangled (name_of p)) ≡ codes "bgl_p_" ++ mangled (name_of p)
    by true e = absurd (cc)
    by false e = refl

-- Names that operations have ---------------------------------------------------------------

found : {A : Type 0} (test : A → Bool) (xs : List A) (x : A) → find test xs ≡ Some x → test x ≡ true
found test [] x e = absurd (cc)
found test (y ∷ ys) x e = go (test y) refl (found test ys x) e
  where
    go : (b : Bool) → test y ≡ b → (find test ys ≡ Some x → test x ≡ true) → cond b (Some y) (find test ys) ≡ Some x → test x ≡ true
    go true same later is = let here : y ≡ x = cc in sym (ap test here) ∙ same
    go false same later is = later is

pub op_named-is : (word : List ℕ) (op : Op) → op_named word ≡ Some op → word ≡ op_text op
unfolding op_named
op_named-is word op e = is_text word (op_text op) (found (is_op word) operations op e)

pub op_named-op_text : (op : Op) → op_named (op_text op) ≡ Some op
unfolding op_named
op_named-op_text BoxLong = refl
op_named-op_text BoxChar = refl
op_named-op_text BoxBool = refl
op_named-op_text UnboxLong = refl
op_named-op_text UnboxChar = refl
op_named-op_text UnboxBool = refl
op_named-op_text CheckPair = refl
op_named-op_text CheckVector = refl
op_named-op_text CheckBstring = refl
op_named-op_text CheckSymbol = refl
op_named-op_text CheckProcedure = refl
op_named-op_text Truth = refl
op_named-op_text Closure = refl
op_named-op_text Env = refl
op_named-op_text Cell = refl
op_named-op_text (Get Obj) = refl
op_named-op_text (Get Long) = refl
op_named-op_text (Get Char) = refl
op_named-op_text (Get Int) = refl
op_named-op_text (Put Obj) = refl
op_named-op_text (Put Long) = refl
op_named-op_text (Put Char) = refl
op_named-op_text (Put Int) = refl
op_named-op_text Call = refl
op_named-op_text Str = refl
op_named-op_text Raise = refl
op_named-op_text Args = refl
op_named-op_text Status = refl
op_named-op_text (Does prim.Add) = refl
op_named-op_text (Does prim.Subtract) = refl
op_named-op_text (Does prim.Multiply) = refl
op_named-op_text (Does prim.AddFixnum) = refl
op_named-op_text (Does prim.SubtractFixnum) = refl
op_named-op_text (Does prim.MultiplyFixnum) = refl
op_named-op_text (Does prim.Quotient) = refl
op_named-op_text (Does prim.Remainder) = refl
op_named-op_text (Does prim.Modulo) = refl
op_named-op_text (Does prim.Equal) = refl
op_named-op_text (Does prim.Less) = refl
op_named-op_text (Does prim.Greater) = refl
op_named-op_text (Does prim.LessOrEqual) = refl
op_named-op_text (Does prim.GreaterOrEqual) = refl
op_named-op_text (Does prim.EqualFixnum) = refl
op_named-op_text (Does prim.LessFixnum) = refl
op_named-op_text (Does prim.GreaterFixnum) = refl
op_named-op_text (Does prim.LessOrEqualFixnum) = refl
op_named-op_text (Does prim.GreaterOrEqualFixnum) = refl
op_named-op_text (Does prim.IsZero) = refl
op_named-op_text (Does prim.IsEven) = refl
op_named-op_text (Does prim.IsOdd) = refl
op_named-op_text (Does prim.Not) = refl
op_named-op_text (Does prim.IsNull) = refl
op_named-op_text (Does prim.IsPair) = refl
op_named-op_text (Does prim.IsVector) = refl
op_named-op_text (Does prim.IsString) = refl
op_named-op_text (Does prim.IsSymbol) = refl
op_named-op_text (Does prim.IsChar) = refl
op_named-op_text (Does prim.IsBoolean) = refl
op_named-op_text (Does prim.IsInteger) = refl
op_named-op_text (Does prim.IsProcedure) = refl
op_named-op_text (Does prim.IsEofObject) = refl
op_named-op_text (Does prim.IsList) = refl
op_named-op_text (Does prim.IsSame) = refl
op_named-op_text (Does prim.IsEquivalent) = refl
op_named-op_text (Does prim.Cons) = refl
op_named-op_text (Does prim.Car) = refl
op_named-op_text (Does prim.Cdr) = refl
op_named-op_text (Does prim.SetCar) = refl
op_named-op_text (Does prim.SetCdr) = refl
op_named-op_text (Does prim.Cadr) = refl
op_named-op_text (Does prim.Cddr) = refl
op_named-op_text (Does prim.Caddr) = refl
op_named-op_text (Does prim.Length) = refl
op_named-op_text (Does prim.Append) = refl
op_named-op_text (Does prim.Reverse) = refl
op_named-op_text (Does prim.Memq) = refl
op_named-op_text (Does prim.Assq) = refl
op_named-op_text (Does prim.MakeVector) = refl
op_named-op_text (Does prim.VectorLength) = refl
op_named-op_text (Does prim.VectorRef) = refl
op_named-op_text (Does prim.VectorSet) = refl
op_named-op_text (Does prim.CharToInteger) = refl
op_named-op_text (Does prim.IntegerToChar) = refl
op_named-op_text (Does prim.CharEqual) = refl
op_named-op_text (Does prim.CharLess) = refl
op_named-op_text (Does prim.MakeString) = refl
op_named-op_text (Does prim.StringLength) = refl
op_named-op_text (Does prim.StringRef) = refl
op_named-op_text (Does prim.StringEqual) = refl
op_named-op_text (Does prim.StringLess) = refl
op_named-op_text (Does prim.StringAppend) = refl
op_named-op_text (Does prim.Substring) = refl
op_named-op_text (Does prim.NumberToString) = refl
op_named-op_text (Does prim.StringToNumber) = refl
op_named-op_text (Does prim.SymbolToString) = refl
op_named-op_text (Does prim.Display) = refl
op_named-op_text (Does prim.Write) = refl
op_named-op_text (Does prim.Newline) = refl
op_named-op_text (Does prim.WriteChar) = refl
op_named-op_text (Does prim.ReadChar) = refl
op_named-op_text (Does prim.PeekChar) = refl
op_named-op_text (Does prim.Error) = refl
op_named-op_text (Does prim.List) = refl
op_named-op_text (Does prim.BitAnd) = refl
op_named-op_text (Does prim.BitOr) = refl
op_named-op_text (Does prim.BitXor) = refl
op_named-op_text (Does prim.BitNot) = refl
op_named-op_text (Does prim.BitShiftLeft) = refl
op_named-op_text (Does prim.BitShiftRight) = refl

-- what holds of each operation of the list holds of any
pub every_operation : (f : Op → Bool) → list_all f operations ≡ true → (op : Op) → f op ≡ true
unfolding op_named
every_operation f all op = go operations all (op_named-op_text op)
  where
    go : (ops : List Op) → list_all f ops ≡ true → find (is_op (op_text op)) ops ≡ Some op → f op ≡ true
    go [] all e = absurd (cc)
    go (o ∷ ops) all e = let a = and_parts (f o) (list_all f ops) all in each (is_op (op_text op) o) a.0 (go ops a.1) e
      where
        each : (b : Bool) → f o ≡ true → (find (is_op (op_text op)) ops ≡ Some op → f op ≡ true) → cond b (Some o) (find (is_op (op_text op)) ops) ≡ Some op → f op ≡ true
        each true first later e = let same : o ≡ op = cc in ap f (sym same) ∙ first
        each false first later e = later e
