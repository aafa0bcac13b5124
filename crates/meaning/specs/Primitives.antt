-- What the primitives do: the number of arguments, then their types left to right, then the act (R5RS sections 6.2.5 and 6.6.3).
use Rattle.std.specs.Prelude.{ℕ, List, [], ◌∷◌, ◌++◌, length, nat_eq, ℤ, ◌+ℤ◌, int_lt, Bool, true, false, if◌then◌else◌}
use Rattle.scheme_data.specs.Constants.{false_text, true_text, empty_text, unspecified_text}
use Rattle.scheme_data.specs.Decimal.{decimal_text, number_text}
use Rattle.scheme_data.specs.Fixnum.{is_fixnum}
use Rattle.prim_table.specs.Errors.{number_of}
use Rattle.prim_table.specs.declared.errors.ErrCode.TheVariants.{WrongType, ArgumentCount, Range as OutOfRange}
use Rattle.built_table.specs.declared.primitives.Ty.{Ty}
use Rattle.built_table.specs.declared.primitives.Ty.TheVariants.{Obj, Long, Bool as Truth}
use Rattle.built_table.specs.declared.primitives.Primitive.{Primitive}
use Rattle.built_table.specs.declared.primitives.Primitive.TheVariants.{Add, Less, Display, Newline}
use Rattle.built_table.specs.Table.{name_of, params_of, type_name}
use Rattle.meaning.specs.Value.{Value, Fixnum, Boolean, Empty, Unspecified, State, Outcome, Gives, Raises, Spends}

abbrev pub fits : Ty → Value → Bool
fits Obj v = true
fits Long (Fixnum n) = true
fits Long (Boolean b) = false
fits Long Empty = false
fits Long Unspecified = false
fits Truth (Fixnum n) = false
fits Truth (Boolean b) = true
fits Truth Empty = false
fits Truth Unspecified = false

-- the error whose text is the number wanted
abbrev pub counted : {A : Type 0} → ℕ → ℕ → State → Outcome A → Outcome A
counted want have s next = if nat_eq have want then next else Raises (number_of ArgumentCount) (decimal_text want) s

-- the first value that isn't of its type raises the error whose text is the type's name
abbrev pub tested : {A : Type 0} → List Ty → List Value → State → Outcome A → Outcome A
tested (t ∷ ts) (v ∷ vs) s next = if fits t v then tested ts vs s next else Raises (number_of WrongType) (type_name t) s
tested [] vs s next = next
tested (t ∷ ts) [] s next = next

-- how `display` prints a value
abbrev pub printed : Value → List ℕ
printed (Fixnum n) = number_text n
printed (Boolean true) = true_text
printed (Boolean false) = false_text
printed Empty = empty_text
printed Unspecified = unspecified_text

abbrev pub print : List ℕ → State → State
print text s = record s { output = s.output ++ text }

-- an error outside the fixnum range
abbrev pub in_range : ℤ → List ℕ → State → Outcome Value
in_range n text s = if is_fixnum n then Gives (Fixnum n) s else Raises (number_of OutOfRange) text s

abbrev pub add : List Value → State → Outcome Value
add (Fixnum a ∷ Fixnum b ∷ []) s = in_range (a +ℤ b) (name_of Add) s
add _ s = Spends s

-- the order of numbers
abbrev pub less : List Value → State → Outcome Value
less (Fixnum a ∷ Fixnum b ∷ []) s = Gives (Boolean (int_lt a b)) s
less _ s = Spends s

abbrev pub display : List Value → State → Outcome Value
display (v ∷ []) s = Gives Unspecified (print (printed v) s)
display _ s = Spends s

abbrev pub newline : List Value → State → Outcome Value
newline [] s = Gives Unspecified (print (10 ∷ []) s)
newline _ s = Spends s

-- the act of a primitive on as many values of its types as it has parameters; on others it is never asked
abbrev pub act : Primitive → List Value → State → Outcome Value
act Add = add
act Less = less
act Display = display
act Newline = newline

abbrev pub primitive : Primitive → List Value → State → Outcome Value
primitive p vs s = counted (length (params_of p)) (length vs) s (tested (params_of p) vs s (act p vs s))
