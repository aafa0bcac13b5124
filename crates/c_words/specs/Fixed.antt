-- The tables of the words that no program chooses, and how the words of operations are told apart by their first bytes.
use Rattle.std.specs.Prelude.{ℕ, List, [], ◌∷◌, nat_eq, Bool, true, false, ◌&&◌, Option, Some, None}
use Rattle.prim_table.specs.Table.{name_of}
use Rattle.c_tree.specs.declared.tree.CTy.TheVariants.{Obj, Long, Char, Int}
use Rattle.c_tree.specs.declared.op.Op.{Op}
use Rattle.c_tree.specs.declared.op.Op.TheVariants.{BoxLong, BoxChar, BoxBool, UnboxLong, UnboxChar, UnboxBool, CheckPair, CheckVector, CheckBstring, CheckSymbol, CheckProcedure, Truth, Closure, Env, Cell, Get, Put, Call, Str, Raise, Args, Status, Primitive as Does}
use Rattle.c_tree.specs.Names.{unmangled}
use Rattle.c_tree.specs.Operations.{own_name}
use Rattle.prim_table.specs.declared.primitives.Primitive.TheVariants.{BitAnd, BitOr, BitXor, BitNot, BitShiftLeft, BitShiftRight}
use Rattle.c_words.specs.declared.fixed.ReservedWord.{ReservedWord}
use Rattle.c_words.specs.Kinds.{Reserved, reserved_word}
use Rattle.c_words.specs.Search.{with_rest}

-- a row of the program's table, as the definition has it
abbrev pub as_reserved : ReservedWord → Reserved
as_reserved r = reserved_word r.word.now r.kind

-- the name of an operation, where it isn't a mangled one
abbrev pub plain_name : Op → List ℕ
plain_name (Does p) = name_of p
plain_name op = own_name op

-- the operations whose names are not mangled, in the order of these
abbrev pub plain_operations : List Op
plain_operations =
    Args ∷ Does BitAnd ∷ Does BitShiftLeft ∷ Does BitNot ∷ Does BitOr ∷ Does BitShiftRight ∷ Does BitXor ∷ BoxBool ∷ BoxChar ∷ BoxLong ∷
    Call ∷ Cell ∷ CheckBstring ∷ CheckPair ∷ CheckProcedure ∷ CheckSymbol ∷ CheckVector ∷ Closure ∷ Env ∷
    Get Char ∷ Get Int ∷ Get Long ∷ Get Obj ∷ Put Char ∷ Put Int ∷ Put Long ∷ Put Obj ∷
    Raise ∷ Status ∷ Str ∷ Truth ∷ UnboxBool ∷ UnboxChar ∷ UnboxLong ∷ []

-- whether a text begins with another
abbrev pub starts_with : List ℕ → List ℕ → Bool
starts_with [] text = true
starts_with (x ∷ xs) [] = false
starts_with (x ∷ xs) (y ∷ ys) = nat_eq x y && starts_with xs ys

abbrev pub with_name : {T : Type 0} → (T → List ℕ) → ℕ → Option (List ℕ) → List T → Option T
with_name spelled depth None rows = None
with_name spelled depth (Some name) rows = with_rest spelled depth name rows

-- the row behind the first bytes of whose name these stand, mangled
abbrev pub with_mangling : {T : Type 0} → (T → List ℕ) → ℕ → List ℕ → List T → Option T
with_mangling spelled depth rest rows = with_name spelled depth (unmangled rest) rows
