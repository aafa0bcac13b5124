-- The table of primitives and extern C functions: their names, the types of their parameters, and the types of their results (R5RS section 6; the type identifiers and the fixnum names are the Bigloo manual's).
use Rattle.std.specs.Prelude.{ℕ, List, [], ◌∷◌, codes, nat_eq, Bool, Option, find}
use Rattle.std.specs.Option.{option_or}
use Rattle.std.specs.Cmp.Lexicographic.{pointwise}
use Rattle.prim_table.specs.declared.types.Ty.{Ty}
use Rattle.prim_table.specs.declared.types.Ty.TheVariants.{Obj, Long, Char, Bool as Truth, Pair, Vector, Bstring, Symbol, Procedure}
use Rattle.prim_table.specs.declared.primitives.Primitive.{Primitive}
use Rattle.prim_table.specs.declared.primitives.Primitive.TheVariants.{Add, Subtract, Multiply, AddFixnum, SubtractFixnum, MultiplyFixnum, Quotient, Remainder, Modulo, Equal, Less, Greater, LessOrEqual, GreaterOrEqual, EqualFixnum, LessFixnum, GreaterFixnum, LessOrEqualFixnum, GreaterOrEqualFixnum, IsZero, IsEven, IsOdd, Not, IsNull, IsPair, IsVector, IsString, IsSymbol, IsChar, IsBoolean, IsInteger, IsProcedure, IsEofObject, IsList, IsSame, IsEquivalent, Cons, Car, Cdr, SetCar, SetCdr, Cadr, Cddr, Caddr, Length, Append, Reverse, Memq, Assq, MakeVector, VectorLength, VectorRef, VectorSet, CharToInteger, IntegerToChar, CharEqual, CharLess, MakeString, StringLength, StringRef, StringEqual, StringLess, StringAppend, Substring, NumberToString, StringToNumber, SymbolToString, Display, Write, Newline, WriteChar, ReadChar, PeekChar, Error, List as Listed, BitAnd, BitOr, BitXor, BitNot, BitShiftLeft, BitShiftRight}

-- a type's identifier, as declarations and error texts spell it
abbrev pub type_name : Ty → List ℕ
type_name Obj = codes "obj"
type_name Long = codes "long"
type_name Char = codes "char"
type_name Truth = codes "bool"
type_name Pair = codes "pair"
type_name Vector = codes "vector"
type_name Bstring = codes "bstring"
type_name Symbol = codes "symbol"
type_name Procedure = codes "procedure"

abbrev pub all_types : List Ty
all_types = Obj ∷ Long ∷ Char ∷ Truth ∷ Pair ∷ Vector ∷ Bstring ∷ Symbol ∷ Procedure ∷ []

abbrev pub is_type : List ℕ → Ty → Bool
is_type name ty = pointwise nat_eq name (type_name ty)

-- the type of an identifier
abbrev pub type_named : List ℕ → Option Ty
type_named name = find (is_type name) all_types

pub record Row : Type 0 where
  pub name : List ℕ
  pub params : List Ty
  pub result : Ty

abbrev pub row : List ℕ → List Ty → Ty → Row
row name params result = record { name = name; params = params; result = result }

abbrev pub row_of : Primitive → Row
-- arithmetic
row_of Add = row (codes "+") (Long ∷ Long ∷ []) Long
row_of Subtract = row (codes "-") (Long ∷ Long ∷ []) Long
row_of Multiply = row (codes "*") (Long ∷ Long ∷ []) Long
row_of AddFixnum = row (codes "+fx") (Long ∷ Long ∷ []) Long
row_of SubtractFixnum = row (codes "-fx") (Long ∷ Long ∷ []) Long
row_of MultiplyFixnum = row (codes "*fx") (Long ∷ Long ∷ []) Long
row_of Quotient = row (codes "quotient") (Long ∷ Long ∷ []) Long
row_of Remainder = row (codes "remainder") (Long ∷ Long ∷ []) Long
row_of Modulo = row (codes "modulo") (Long ∷ Long ∷ []) Long
-- order of numbers
row_of Equal = row (codes "=") (Long ∷ Long ∷ []) Truth
row_of Less = row (codes "<") (Long ∷ Long ∷ []) Truth
row_of Greater = row (codes ">") (Long ∷ Long ∷ []) Truth
row_of LessOrEqual = row (codes "<=") (Long ∷ Long ∷ []) Truth
row_of GreaterOrEqual = row (codes ">=") (Long ∷ Long ∷ []) Truth
row_of EqualFixnum = row (codes "=fx") (Long ∷ Long ∷ []) Truth
row_of LessFixnum = row (codes "<fx") (Long ∷ Long ∷ []) Truth
row_of GreaterFixnum = row (codes ">fx") (Long ∷ Long ∷ []) Truth
row_of LessOrEqualFixnum = row (codes "<=fx") (Long ∷ Long ∷ []) Truth
row_of GreaterOrEqualFixnum = row (codes ">=fx") (Long ∷ Long ∷ []) Truth
-- tests of a number
row_of IsZero = row (codes "zero?") (Long ∷ []) Truth
row_of IsEven = row (codes "even?") (Long ∷ []) Truth
row_of IsOdd = row (codes "odd?") (Long ∷ []) Truth
-- tests of any value
row_of Not = row (codes "not") (Obj ∷ []) Truth
row_of IsNull = row (codes "null?") (Obj ∷ []) Truth
row_of IsPair = row (codes "pair?") (Obj ∷ []) Truth
row_of IsVector = row (codes "vector?") (Obj ∷ []) Truth
row_of IsString = row (codes "string?") (Obj ∷ []) Truth
row_of IsSymbol = row (codes "symbol?") (Obj ∷ []) Truth
row_of IsChar = row (codes "char?") (Obj ∷ []) Truth
row_of IsBoolean = row (codes "boolean?") (Obj ∷ []) Truth
row_of IsInteger = row (codes "integer?") (Obj ∷ []) Truth
row_of IsProcedure = row (codes "procedure?") (Obj ∷ []) Truth
row_of IsEofObject = row (codes "eof-object?") (Obj ∷ []) Truth
row_of IsList = row (codes "list?") (Obj ∷ []) Truth
-- sameness
row_of IsSame = row (codes "eq?") (Obj ∷ Obj ∷ []) Truth
row_of IsEquivalent = row (codes "eqv?") (Obj ∷ Obj ∷ []) Truth
-- pairs
row_of Cons = row (codes "cons") (Obj ∷ Obj ∷ []) Pair
row_of Car = row (codes "car") (Pair ∷ []) Obj
row_of Cdr = row (codes "cdr") (Pair ∷ []) Obj
row_of SetCar = row (codes "set-car!") (Pair ∷ Obj ∷ []) Obj
row_of SetCdr = row (codes "set-cdr!") (Pair ∷ Obj ∷ []) Obj
row_of Cadr = row (codes "cadr") (Obj ∷ []) Obj
row_of Cddr = row (codes "cddr") (Obj ∷ []) Obj
row_of Caddr = row (codes "caddr") (Obj ∷ []) Obj
-- lists
row_of Length = row (codes "length") (Obj ∷ []) Long
row_of Append = row (codes "append") (Obj ∷ Obj ∷ []) Obj
row_of Reverse = row (codes "reverse") (Obj ∷ []) Obj
row_of Memq = row (codes "memq") (Obj ∷ Obj ∷ []) Obj
row_of Assq = row (codes "assq") (Obj ∷ Obj ∷ []) Obj
-- vectors
row_of MakeVector = row (codes "make-vector") (Long ∷ Obj ∷ []) Vector
row_of VectorLength = row (codes "vector-length") (Vector ∷ []) Long
row_of VectorRef = row (codes "vector-ref") (Vector ∷ Long ∷ []) Obj
row_of VectorSet = row (codes "vector-set!") (Vector ∷ Long ∷ Obj ∷ []) Obj
-- characters
row_of CharToInteger = row (codes "char->integer") (Char ∷ []) Long
row_of IntegerToChar = row (codes "integer->char") (Long ∷ []) Char
row_of CharEqual = row (codes "char=?") (Char ∷ Char ∷ []) Truth
row_of CharLess = row (codes "char<?") (Char ∷ Char ∷ []) Truth
-- strings and symbols
row_of MakeString = row (codes "make-string") (Long ∷ Char ∷ []) Bstring
row_of StringLength = row (codes "string-length") (Bstring ∷ []) Long
row_of StringRef = row (codes "string-ref") (Bstring ∷ Long ∷ []) Char
row_of StringEqual = row (codes "string=?") (Bstring ∷ Bstring ∷ []) Truth
row_of StringLess = row (codes "string<?") (Bstring ∷ Bstring ∷ []) Truth
row_of StringAppend = row (codes "string-append") (Bstring ∷ Bstring ∷ []) Bstring
row_of Substring = row (codes "substring") (Bstring ∷ Long ∷ Long ∷ []) Bstring
row_of NumberToString = row (codes "number->string") (Long ∷ []) Bstring
row_of StringToNumber = row (codes "string->number") (Bstring ∷ []) Obj
row_of SymbolToString = row (codes "symbol->string") (Symbol ∷ []) Bstring
-- output, input and errors
row_of Display = row (codes "display") (Obj ∷ []) Obj
row_of Write = row (codes "write") (Obj ∷ []) Obj
row_of Newline = row (codes "newline") [] Obj
row_of WriteChar = row (codes "write-char") (Char ∷ []) Obj
row_of ReadChar = row (codes "read-char") [] Obj
row_of PeekChar = row (codes "peek-char") [] Obj
row_of Error = row (codes "error") (Obj ∷ Obj ∷ Obj ∷ []) Obj
-- of any number of arguments, and so called by itself with none
row_of Listed = row (codes "list") [] Obj
-- externs
row_of BitAnd = row (codes "bgl_bit_and") (Long ∷ Long ∷ []) Long
row_of BitOr = row (codes "bgl_bit_or") (Long ∷ Long ∷ []) Long
row_of BitXor = row (codes "bgl_bit_xor") (Long ∷ Long ∷ []) Long
row_of BitNot = row (codes "bgl_bit_not") (Long ∷ []) Long
row_of BitShiftLeft = row (codes "bgl_bit_lsh") (Long ∷ Long ∷ []) Long
row_of BitShiftRight = row (codes "bgl_bit_rsh") (Long ∷ Long ∷ []) Long

abbrev pub name_of : Primitive → List ℕ
name_of p = (row_of p).name

abbrev pub params_of : Primitive → List Ty
params_of p = (row_of p).params

abbrev pub result_of : Primitive → Ty
result_of p = (row_of p).result

-- Names ------------------------------------------------------------------------------------

-- the primitives, which a source calls by their names, in the order of these
abbrev pub primitives : List Primitive
primitives =
    Multiply ∷ MultiplyFixnum ∷ Add ∷ AddFixnum ∷ Subtract ∷ SubtractFixnum ∷ Less ∷ LessOrEqual ∷ LessOrEqualFixnum ∷
    LessFixnum ∷ Equal ∷ EqualFixnum ∷ Greater ∷ GreaterOrEqual ∷ GreaterOrEqualFixnum ∷ GreaterFixnum ∷ Append ∷
    Assq ∷ IsBoolean ∷ Caddr ∷ Cadr ∷ Car ∷ Cddr ∷ Cdr ∷ CharToInteger ∷ CharLess ∷ CharEqual ∷ IsChar ∷ Cons ∷
    Display ∷ IsEofObject ∷ IsSame ∷ IsEquivalent ∷ Error ∷ IsEven ∷ IntegerToChar ∷ IsInteger ∷ Length ∷ Listed ∷
    IsList ∷ MakeString ∷ MakeVector ∷ Memq ∷ Modulo ∷ Newline ∷ Not ∷ IsNull ∷ NumberToString ∷ IsOdd ∷ IsPair ∷
    PeekChar ∷ IsProcedure ∷ Quotient ∷ ReadChar ∷ Remainder ∷ Reverse ∷ SetCar ∷ SetCdr ∷ StringToNumber ∷ StringAppend ∷
    StringLength ∷ StringRef ∷ StringLess ∷ StringEqual ∷ IsString ∷ Substring ∷ SymbolToString ∷ IsSymbol ∷ VectorLength ∷
    VectorRef ∷ VectorSet ∷ IsVector ∷ Write ∷ WriteChar ∷ IsZero ∷ []

-- the extern C functions, which an extern clause names by their C names, in the order of these
abbrev pub externs : List Primitive
externs =
    BitAnd ∷ BitShiftLeft ∷ BitNot ∷ BitOr ∷ BitShiftRight ∷ BitXor ∷ []

abbrev pub is_name : List ℕ → Primitive → Bool
is_name word p = pointwise nat_eq word (name_of p)

-- the primitive of a name
unfoldable pub prim_named : List ℕ → Option Primitive
prim_named word = find (is_name word) primitives

-- the extern C function of a C name
unfoldable pub extern_named : List ℕ → Option Primitive
extern_named word = find (is_name word) externs

-- the primitive or extern C function of a name; no name is both
unfoldable pub any_named : List ℕ → Option Primitive
any_named word = option_or (prim_named word) (extern_named word)
