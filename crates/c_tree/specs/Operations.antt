-- The operations of the runtime: what each is called in a C text, what it asks of its arguments, and what it gives. The row of a primitive is made from the table of primitives.
use Rattle.std.specs.Prelude.{◌≡◌, ℕ, List, [], ◌∷◌, ◌++◌, codes, map, find, slice_get, nat_eq, Bool, true, false, if◌then◌else◌, Option, Some, None}
use Rattle.std.specs.Cmp.Lexicographic.{pointwise}
use Rattle.prim_table.specs.declared.types.Ty.{Ty}
use Rattle.prim_table.specs.declared.types.Ty.TheVariants as types
use Rattle.prim_table.specs.declared.primitives.Primitive.{Primitive}
use Rattle.prim_table.specs.declared.primitives.Primitive.TheVariants.{BitAnd, BitOr, BitXor, BitNot, BitShiftLeft, BitShiftRight}
use Rattle.prim_table.specs.Table.{row_of, primitives, externs}
use Rattle.built_table.specs.declared.primitives.Primitive.{Primitive as BuiltPrimitive}
use Rattle.built_table.specs.Table.{in_table}
use Rattle.c_tree.specs.declared.tree.CTy.{CTy}
use Rattle.c_tree.specs.declared.tree.CTy.TheVariants.{Obj, Long, Char, Int}
use Rattle.c_tree.specs.declared.op.Wants.{Wants}
use Rattle.c_tree.specs.declared.op.Wants.TheVariants.{AType, AnError, AText, AnEntry, AnArity, Slots, ASlot}
use Rattle.c_tree.specs.declared.op.Op.{Op}
use Rattle.c_tree.specs.declared.op.Op.TheVariants.{BoxLong, BoxChar, BoxBool, UnboxLong, UnboxChar, UnboxBool, CheckPair, CheckVector, CheckBstring, CheckSymbol, CheckProcedure, Truth, Closure, Env, Cell, Get, Put, Call, Str, Raise, Args, Status, Primitive as Does}
use Rattle.c_tree.specs.declared.op.Row.{Row}
use Rattle.c_tree.specs.declared.op.Row.TheVariants.{Own, OfPrimitive}
use Rattle.c_tree.specs.Names.{mangled}

pub record OpRow : Type 0 where
  pub name : List ℕ
  pub wants : List Wants
  pub gives : CTy

abbrev pub row : List ℕ → List Wants → CTy → OpRow
row name wants gives = record { name = name; wants = wants; gives = gives }

-- the C type of the values of a type
abbrev pub c_type : Ty → CTy
c_type types.Long = Long
c_type types.Char = Char
c_type types.Bool = Int
c_type _ = Obj

abbrev pub wanted : Ty → Wants
wanted t = AType (c_type t)

abbrev pub is_extern : Primitive → Bool
is_extern BitAnd = true
is_extern BitOr = true
is_extern BitXor = true
is_extern BitNot = true
is_extern BitShiftLeft = true
is_extern BitShiftRight = true
is_extern _ = false

-- an extern C function has its own name
abbrev pub c_name : Primitive → List ℕ
c_name p = if is_extern p then (row_of p).name else codes "bgl_p_" ++ mangled (row_of p).name

abbrev pub primitive_row : Primitive → OpRow
primitive_row p = row (c_name p) (map wanted (row_of p).params) (c_type (row_of p).result)

abbrev pub get_row : CTy → OpRow
get_row Obj = row (codes "bgl_get_obj") (AType Obj ∷ ASlot ∷ []) Obj
get_row Long = row (codes "bgl_get_long") (AType Obj ∷ ASlot ∷ []) Long
get_row Char = row (codes "bgl_get_char") (AType Obj ∷ ASlot ∷ []) Char
get_row Int = row (codes "bgl_get_int") (AType Obj ∷ ASlot ∷ []) Int

abbrev pub put_row : CTy → OpRow
put_row Obj = row (codes "bgl_put_obj") (AType Obj ∷ ASlot ∷ AType Obj ∷ []) Int
put_row Long = row (codes "bgl_put_long") (AType Obj ∷ ASlot ∷ AType Long ∷ []) Int
put_row Char = row (codes "bgl_put_char") (AType Obj ∷ ASlot ∷ AType Char ∷ []) Int
put_row Int = row (codes "bgl_put_int") (AType Obj ∷ ASlot ∷ AType Int ∷ []) Int

abbrev pub op_row : Op → OpRow
op_row BoxLong = row (codes "bgl_box_long") (AType Long ∷ []) Obj
op_row BoxChar = row (codes "bgl_box_char") (AType Char ∷ []) Obj
op_row BoxBool = row (codes "bgl_box_bool") (AType Int ∷ []) Obj
op_row UnboxLong = row (codes "bgl_unbox_long") (AType Obj ∷ []) Long
op_row UnboxChar = row (codes "bgl_unbox_char") (AType Obj ∷ []) Char
op_row UnboxBool = row (codes "bgl_unbox_bool") (AType Obj ∷ []) Int
op_row CheckPair = row (codes "bgl_check_pair") (AType Obj ∷ []) Obj
op_row CheckVector = row (codes "bgl_check_vector") (AType Obj ∷ []) Obj
op_row CheckBstring = row (codes "bgl_check_bstring") (AType Obj ∷ []) Obj
op_row CheckSymbol = row (codes "bgl_check_symbol") (AType Obj ∷ []) Obj
op_row CheckProcedure = row (codes "bgl_check_procedure") (AType Obj ∷ []) Obj
op_row Truth = row (codes "bgl_truth") (AType Obj ∷ []) Int
op_row Closure = row (codes "bgl_closure") (AnEntry ∷ AnArity ∷ Slots ∷ []) Obj
op_row Env = row (codes "bgl_env") (Slots ∷ []) Obj
op_row Cell = row (codes "bgl_cell") [] Obj
op_row (Get t) = get_row t
op_row (Put t) = put_row t
op_row Call = row (codes "bgl_call") (AType Obj ∷ []) Obj
op_row Str = row (codes "bgl_string") (AText ∷ []) Obj
op_row Raise = row (codes "bgl_raise") (AnError ∷ AText ∷ []) Int
op_row Args = row (codes "bgl_args") [] Obj
op_row Status = row (codes "bgl_status") (AType Obj ∷ []) Int
op_row (Does p) = primitive_row p

abbrev pub op_text : Op → List ℕ
op_text op = (op_row op).name

-- what it asks of its arguments, or of the first of them
abbrev pub wants_of : Op → List Wants
wants_of op = (op_row op).wants

-- a call of a procedure takes any number of further objects
abbrev pub takes_more : Op → Bool
takes_more Call = true
takes_more _ = false

abbrev pub or_more : Bool → Option Wants → Option Wants
or_more more (Some w) = Some w
or_more more None = if more then Some (AType Obj) else None

-- what it asks of the argument at a place
abbrev pub wants_at : Op → ℕ → Option Wants
wants_at op i = or_more (takes_more op) (slice_get (wants_of op) i)

abbrev pub gives_of : Op → CTy
gives_of op = (op_row op).gives

-- what does a primitive that sources are compiled with so far
abbrev pub primitive_op : BuiltPrimitive → Op
primitive_op p = Does (in_table p)

-- whether its row stands here
abbrev pub is_own : Op → Bool
is_own (Does p) = false
is_own _ = true

-- the name of one whose row stands here
abbrev pub own_name : Op → List ℕ
own_name op = if is_own op then op_text op else []

-- the row of an operation, or the primitive that it does
abbrev pub IsRowOf : Op → Row → Type 0
IsRowOf op (Own r) = (op_row op ≡ row r.name.now r.wants.now r.gives) × (is_own op ≡ true)
IsRowOf op (OfPrimitive p) = op ≡ Does p

-- Names -------------------------------------------------------------------------------------

-- those whose rows stand here, in the order of their names
abbrev pub own_operations : List Op
own_operations =
    Args ∷ BoxBool ∷ BoxChar ∷ BoxLong ∷ Call ∷ Cell ∷ CheckBstring ∷ CheckPair ∷ CheckProcedure ∷ CheckSymbol ∷ CheckVector ∷
    Closure ∷ Env ∷ Get Char ∷ Get Int ∷ Get Long ∷ Get Obj ∷ Put Char ∷ Put Int ∷ Put Long ∷ Put Obj ∷
    Raise ∷ Status ∷ Str ∷ Truth ∷ UnboxBool ∷ UnboxChar ∷ UnboxLong ∷ []

abbrev pub operations : List Op
operations = own_operations ++ map Does (primitives ++ externs)

abbrev pub is_op : List ℕ → Op → Bool
is_op word op = pointwise nat_eq word (op_text op)

-- the operation of a name
unfoldable pub op_named : List ℕ → Option Op
op_named word = find (is_op word) operations
