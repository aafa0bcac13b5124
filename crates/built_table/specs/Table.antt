-- The part of the table of primitives that programs are built from so far. The whole table tells all of a primitive but its meaning.
use Rattle.std.specs.Prelude.{ℕ, List, [], ◌∷◌, map, Bool, true, false, Option, Some, None}
use Rattle.prim_table.specs.declared.types.Ty.{Ty as TableTy}
use Rattle.prim_table.specs.declared.types.Ty.TheVariants as table_types
use Rattle.prim_table.specs.declared.primitives.Primitive.{Primitive as TablePrimitive}
use Rattle.prim_table.specs.declared.primitives.Primitive.TheVariants as table_primitives
use Rattle.prim_table.specs.Table as table
use Rattle.built_table.specs.declared.primitives.Ty.{Ty}
use Rattle.built_table.specs.declared.primitives.Ty.TheVariants.{Obj, Long, Bool as Truth}
use Rattle.built_table.specs.declared.primitives.Primitive.{Primitive}
use Rattle.built_table.specs.declared.primitives.Primitive.TheVariants.{Add, Less, Display, Newline}

-- Types -------------------------------------------------------------------------------------

abbrev pub table_type : Ty → TableTy
table_type Obj = table_types.Obj
table_type Long = table_types.Long
table_type Truth = table_types.Bool

-- what a type of the table is built as: a value of any other is a word with its tag
abbrev pub built_type : TableTy → Ty
built_type table_types.Long = Long
built_type table_types.Bool = Truth
built_type _ = Obj

-- the name of a type, as error texts spell it
abbrev pub type_name : Ty → List ℕ
type_name t = table.type_name (table_type t)

-- the types that a parameter of today's primitives has
abbrev pub is_parameter_type : Ty → Bool
is_parameter_type Obj = true
is_parameter_type Long = true
is_parameter_type Truth = false

-- Primitives --------------------------------------------------------------------------------

abbrev pub primitives : List Primitive
primitives = Add ∷ Less ∷ Display ∷ Newline ∷ []

abbrev pub in_table : Primitive → TablePrimitive
in_table Add = table_primitives.Add
in_table Less = table_primitives.Less
in_table Display = table_primitives.Display
in_table Newline = table_primitives.Newline

abbrev pub name_of : Primitive → List ℕ
name_of p = table.name_of (in_table p)

abbrev pub params_of : Primitive → List Ty
params_of p = map built_type (table.params_of (in_table p))

abbrev pub result_of : Primitive → Ty
result_of p = built_type (table.result_of (in_table p))

-- the primitive that stands in the table so, where it is built
abbrev pub built : TablePrimitive → Option Primitive
built table_primitives.Add = Some Add
built table_primitives.Less = Some Less
built table_primitives.Display = Some Display
built table_primitives.Newline = Some Newline
built _ = None

abbrev pub built_of : Option TablePrimitive → Option Primitive
built_of None = None
built_of (Some p) = built p

-- the primitive of a name, where it is built
unfoldable pub prim_named : List ℕ → Option Primitive
prim_named word = built_of (table.prim_named word)
