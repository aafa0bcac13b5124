-- The operations on cells. Arguments that no checked program gives them make a fault.
use Rattle.std.specs.Prelude.{ℕ, List, [], ◌∷◌, ◌++◌, nat_lt, ℤ, pos, negsuc, ◌+ℤ◌, int_lt, Bool, true, false, nat_eq, if◌then◌else◌, ◌&&◌, Option, Some, None, slice_get}
use Rattle.scheme_data.specs.Fixnum.{is_fixnum}
use Rattle.base_io.specs.declared.end.FaultKind.TheVariants.{Tag}
use Rattle.prim_table.specs.Errors.{number_of}
use Rattle.prim_table.specs.declared.errors.ErrCode.TheVariants.{WrongType, Range}
use Rattle.built_table.specs.Table.{built, name_of, type_name}
use Rattle.built_table.specs.declared.primitives.Ty.TheVariants as types
use Rattle.built_table.specs.declared.primitives.Primitive.{Primitive}
use Rattle.built_table.specs.declared.primitives.Primitive.TheVariants.{Add, Less, Display, Newline}
use Rattle.c_tree.specs.declared.tree.CTy.{CTy}
use Rattle.c_tree.specs.declared.tree.CTy.TheVariants.{Obj}
use Rattle.c_tree.specs.declared.op.Wants.{Wants}
use Rattle.c_tree.specs.declared.op.Wants.TheVariants.{AType, AnError, AText}
use Rattle.c_tree.specs.declared.op.Op.{Op}
use Rattle.c_tree.specs.declared.op.Op.TheVariants.{BoxLong, BoxBool, UnboxLong, Truth, Raise, Args, Status, Primitive as Does}
use Rattle.c_tree.specs.Operations.{wants_of}
use Rattle.c_meaning.specs.Word.{Word, Fixnum, False, True, Nil, Unspec, Eof, printed}
use Rattle.c_meaning.specs.State.{Cell, AWord, ANumber, State, Answer, Has, Stops, Faults}

-- an argument of an operation: a cell, or the bytes of a string
pub data Argument : Type 0 where
  ACell : Cell → Argument
  AString : List ℕ → Argument

-- What an operation wants ------------------------------------------------------------------

-- a word at `obj`, and a number at the other types
abbrev pub holds : CTy → Cell → Bool
holds Obj (AWord w) = true
holds Obj (ANumber n) = false
holds t (AWord w) = false
holds t (ANumber n) = true

abbrev pub is_wanted : Wants → Argument → Bool
is_wanted (AType t) (ACell c) = holds t c
is_wanted AnError (ACell (ANumber (pos code))) = true
is_wanted AText (AString text) = true
is_wanted _ _ = false

abbrev pub are_wanted : List Wants → List Argument → Bool
are_wanted [] [] = true
are_wanted (w ∷ ws) (a ∷ others) = is_wanted w a && are_wanted ws others
are_wanted _ _ = false

abbrev pub word_in : Option Argument → Word
word_in (Some (ACell (AWord w))) = w
word_in _ = Unspec

abbrev pub number_in : Option Argument → ℤ
number_in (Some (ACell (ANumber n))) = n
number_in _ = pos 0

abbrev pub text_in : Option Argument → List ℕ
text_in (Some (AString text)) = text
text_in _ = []

-- the argument at a place, where it is what is wanted
abbrev pub word_at : List Argument → ℕ → Word
word_at args i = word_in (slice_get args i)

abbrev pub number_at : List Argument → ℕ → ℤ
number_at args i = number_in (slice_get args i)

abbrev pub text_at : List Argument → ℕ → List ℕ
text_at args i = text_in (slice_get args i)

-- What it does with these ------------------------------------------------------------------

-- 0 is false, and all else is true
abbrev pub is_set : ℤ → Bool
is_set (pos n) = if nat_eq n 0 then false else true
is_set (negsuc n) = true

abbrev pub truth_word : Bool → Word
truth_word true = True
truth_word false = False

abbrev pub truth_number : Bool → ℤ
truth_number true = pos 1
truth_number false = pos 0

-- only `#f` is false
abbrev pub is_true : Word → Bool
is_true False = false
is_true True = true
is_true (Fixnum n) = true
is_true Nil = true
is_true Unspec = true
is_true Eof = true

abbrev pub no_long : State → Answer
no_long s = Stops (number_of WrongType) (type_name types.Long) s

-- the number of a fixnum; no other word is one
abbrev pub fixnum_in : Word → State → Answer
fixnum_in (Fixnum n) s = Has (ANumber n) s
fixnum_in False s = no_long s
fixnum_in True s = no_long s
fixnum_in Nil s = no_long s
fixnum_in Unspec s = no_long s
fixnum_in Eof s = no_long s

abbrev pub stops : ℤ → List ℕ → State → Answer
stops (pos code) text s = Stops code text s
stops (negsuc n) text s = Faults Tag s

abbrev pub small : ℕ → ℕ
small n = if nat_lt n 256 then n else 0

-- a fixnum from 0 to 255, and 0 for all else
abbrev pub status_in : Word → ℕ
status_in (Fixnum (pos n)) = small n
status_in (Fixnum (negsuc n)) = 0
status_in False = 0
status_in True = 0
status_in Nil = 0
status_in Unspec = 0
status_in Eof = 0

-- an error of the primitive outside the fixnum range
abbrev pub in_range : Primitive → ℤ → State → Answer
in_range p n s = if is_fixnum n then Has (ANumber n) s else Stops (number_of Range) (name_of p) s

abbrev pub print : List ℕ → State → State
print text s = record s { output = s.output ++ text }

abbrev pub does : Primitive → List Argument → State → Answer
does Add args s = in_range Add (number_at args 0 +ℤ number_at args 1) s
does Less args s = Has (ANumber (truth_number (int_lt (number_at args 0) (number_at args 1)))) s
does Display args s = Has (AWord Unspec) (print (printed (word_at args 0)) s)
does Newline args s = Has (AWord Unspec) (print (10 ∷ []) s)

abbrev pub does_built : Option Primitive → List Argument → State → Answer
does_built None args s = Faults Tag s
does_built (Some p) args s = does p args s

-- No runnable program has an operation without a row here.
-- the argument list of the program stands as the empty list as long as no program can look at it
abbrev pub done : Op → List Argument → State → Answer
done BoxLong args s = Has (AWord (Fixnum (number_at args 0))) s
done BoxBool args s = Has (AWord (truth_word (is_set (number_at args 0)))) s
done UnboxLong args s = fixnum_in (word_at args 0) s
done Truth args s = Has (ANumber (truth_number (is_true (word_at args 0)))) s
done Raise args s = stops (number_at args 0) (text_at args 1) s
done Args args s = Has (AWord Nil) s
done Status args s = Has (ANumber (pos (status_in (word_at args 0)))) s
done (Does p) args s = does_built (built p) args s
done _ args s = Faults Tag s

abbrev pub operate : Op → List Argument → State → Answer
operate op args s = if are_wanted (wants_of op) args then done op args s else Faults Tag s
