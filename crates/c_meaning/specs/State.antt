-- The state of a run, frames, and how expressions and statements end.
use Rattle.std.specs.Prelude.{ℕ, zero, suc, ◌==◌, List, ℤ, pos, negsuc, if◌then◌else◌, slice_get, unwrap_or}
use Rattle.base_io.specs.declared.end.FaultKind.{FaultKind}
use Rattle.base_io.specs.declared.end.FaultKind.TheVariants.{Tag}
use Rattle.c_tree.specs.declared.tree.CTy.{CTy}
use Rattle.c_tree.specs.declared.tree.CTy.TheVariants as ty
use Rattle.c_meaning.specs.Word.{Word, Fixnum}

-- what a local holds: a word at obj, a number at long, char and int
pub data Cell : Type 0 where
  AWord : Word → Cell
  ANumber : ℤ → Cell

-- a block of the heap is a list of words
abbrev pub Block : Type 0
Block = List Word

-- the heap, the globals, the output, the input that is left, the turns left
pub record State : Type 0 where
  pub heap : List Block
  pub globals : List Word
  pub output : List ℕ
  pub input : List ℕ
  pub turns : ℕ

-- what each local holds, by its position among parameters and locals
abbrev pub Frame : Type 0
Frame = ℕ → Cell

abbrev pub put : ℕ → Cell → Frame → Frame
put x c f = λ y. if y == x then c else f y

-- locals start as 0
abbrev pub blank : CTy → Cell
blank ty.Obj = AWord (Fixnum (pos 0))
blank ty.Long = ANumber (pos 0)
blank ty.Char = ANumber (pos 0)
blank ty.Int = ANumber (pos 0)

abbrev pub frame_of : List Cell → Frame
frame_of cells = λ x. unwrap_or (slice_get cells x) (ANumber (pos 0))

-- how an expression ends: with a cell, by an escape to the exit of a block, with an error, with no turn left, with a fault
pub data Answer : Type 0 where
  Has : Cell → State → Answer
  Leaves : ℕ → Word → State → Answer
  Stops : ℕ → List ℕ → State → Answer
  Ends : State → Answer
  Faults : FaultKind → State → Answer

-- how statements end. An escape carries the frame
pub data Flow : Type 0 where
  Next : Frame → State → Flow
  Goes : List ℕ → Frame → State → Flow
  Returns : Cell → State → Flow
  Escapes : ℕ → Word → Frame → State → Flow
  Raises : ℕ → List ℕ → State → Flow
  Spends : State → Flow
  Fails : FaultKind → State → Flow

-- an expression's end, and then what is done with its cell
abbrev pub with : Answer → Frame → (Cell → State → Flow) → Flow
with (Has c s) f next = next c s
with (Leaves x w s) f next = Escapes x w f s
with (Stops c t s) f next = Raises c t s
with (Ends s) f next = Spends s
with (Faults k s) f next = Fails k s

-- a branch by a condition, where 0 is false; a word is no condition
abbrev pub chosen : Cell → State → Flow → Flow → Flow
chosen (ANumber (pos n)) s a b = if n == 0 then b else a
chosen (ANumber (negsuc n)) s a b = a
chosen (AWord w) s a b = Fails Tag s

abbrev pub after : Flow → (Frame → State → Flow) → Flow
after (Next f s) next = next f s
after (Goes l f s) next = Goes l f s
after (Returns c s) next = Returns c s
after (Escapes x w f s) next = Escapes x w f s
after (Raises c t s) next = Raises c t s
after (Spends s) next = Spends s
after (Fails k s) next = Fails k s

-- a call, by how its function's statements end; those of a checked program return
abbrev pub answer : Flow → Answer
answer (Next f s) = Faults Tag s
answer (Goes l f s) = Faults Tag s
answer (Returns c s) = Has c s
answer (Escapes x w f s) = Leaves x w s
answer (Raises c t s) = Stops c t s
answer (Spends s) = Ends s
answer (Fails k s) = Faults k s

abbrev pub take_from : ℕ → State → (State → Flow) → Flow
take_from zero s next = Spends s
take_from (suc n) s next = next (record s { turns = n })

-- one turn less, or Spent where none is left
abbrev pub take_turn : State → (State → Flow) → Flow
take_turn s next = take_from s.turns s next
