-- One step of the machine, over lists.
use Rattle.std.specs.Prelude.{◌≡◌, ℕ, zero, suc, ◌+◌, ◌<◌, ◌^◌, ◌%◌, List, [], ◌∷◌, ◌++◌, map, Option, Some, None, ℤ, ◌+ℤ◌, nat_eq, if◌then◌else◌, length, slice_get, slice_index, slice_set, take, replicate}
use Rattle.scheme_data.specs.Fixnum.{IsFixnum, is_fixnum, fixnum_word, long_word}
use Rattle.base_io.specs.declared.end.End.{End}
use Rattle.base_io.specs.declared.end.End.TheVariants.{Ended, Raised, Spent, Fault}
use Rattle.base_io.specs.declared.end.FaultKind.TheVariants.{Tag, Entry}
use Rattle.prim_table.specs.Errors.{number_of}
use Rattle.prim_table.specs.declared.errors.ErrCode.TheVariants.{WrongType, Range}
use Rattle.built_table.specs.Table.{name_of, type_name}
use Rattle.built_table.specs.declared.primitives.Ty.TheVariants as types
use Rattle.built_table.specs.declared.primitives.Primitive.{Primitive}
use Rattle.built_table.specs.declared.primitives.Primitive.TheVariants.{Add, Less, Display, Newline}
use Rattle.c_tree.specs.declared.tree.CTy.TheVariants.{Long}
use Rattle.c_tree.specs.declared.op.Wants.{Wants}
use Rattle.c_tree.specs.declared.op.Wants.TheVariants.{AType}
use Rattle.c_tree.specs.Operations.{wants_of, primitive_op}
use Rattle.c_meaning.specs.Word.{Nil, Unspec, bits_of}
use Rattle.c_machine.specs.declared.program.Operand.{Operand}
use Rattle.c_machine.specs.declared.program.Operand.TheVariants as operand
use Rattle.c_machine.specs.declared.program.Target.{Target}
use Rattle.c_machine.specs.declared.program.Target.TheVariants as target
use Rattle.c_machine.specs.declared.program.Action.{Action}
use Rattle.c_machine.specs.declared.program.Action.TheVariants as action
use Rattle.c_machine.specs.declared.program.Instr.{Instr}
use Rattle.c_machine.specs.declared.program.Instr.TheVariants as instr
use Rattle.c_machine.specs.declared.program.Line.{Line}
use Rattle.c_machine.specs.declared.program.Function.{Function}
use Rattle.c_machine.specs.declared.stepping.Flow.{Flow}
use Rattle.c_machine.specs.declared.stepping.Flow.TheVariants.{Going, Over, WriteFault, Memory}
use Rattle.c_machine.specs.declared.stepping.Frame.{Frame}
use Rattle.c_machine.specs.declared.stepping.Regs.{Regs}
use Rattle.c_machine.specs.declared.stepping.Stacks.{Stacks}
use Rattle.c_machine.specs.Added.{Added, AddedPart}
use Rattle.c_machine.specs.Words.{long_of, fixnum_of, word_text, status_of, truth_of, boxed_truth_of, less_of}

-- the function and the instruction that are next, the first slot of the function, the turns left, the slots, the frames that wait and the value that was made last
pub record Config : Type 0 where
  pub fun : ℕ
  pub pc : ℕ
  pub base : ℕ
  pub turns : ℕ
  pub slots : List ℕ
  pub frames : List Frame
  pub value : ℕ

abbrev pub config_of : Regs → Stacks → ℕ → Config
config_of r s v = record { fun = r.fun; pc = r.pc; base = r.base; turns = r.turns; slots = s.slots.items; frames = s.frames; value = v }

abbrev pub look : ℕ → List ℕ → Operand → ℕ
look base slots (operand.Local x) = slice_index slots (base + x)
look base slots (operand.Word w) = w

-- what an action gives: a value, and the bytes that are written; or the end of the run
pub data Gave : Type 0 where
  Gives : (value : ℕ) (bytes : List ℕ) → Gave
  Quits : (e : End) → Gave

-- a number that a primitive makes, where it is a fixnum
abbrev pub ranged : Primitive → ℤ → Gave
ranged p n = if is_fixnum n then Gives (long_word n) [] else Quits (Raised (number_of Range) (name_of p))

abbrev pub unboxed_of : ℕ → Gave
unboxed_of w = if nat_eq (w % 8) 0 then Gives (long_word (fixnum_of w)) [] else Quits (Raised (number_of WrongType) (type_name types.Long))

-- what a primitive does with these values, of which it takes the first
abbrev pub acted : Primitive → ℕ → ℕ → ℕ → Gave
acted Add a b c = ranged Add (long_of a +ℤ long_of b)
acted Less a b c = Gives (less_of (long_of a) (long_of b)) []
acted Display a b c = Gives (bits_of Unspec) (word_text a)
acted Newline a b c = Gives (bits_of Unspec) (10 ∷ [])

abbrev pub performed : Action → ℕ → List ℕ → Gave
performed (action.Copy a) base slots = Gives (look base slots a) []
performed (action.BoxLong a) base slots = Gives (fixnum_word (long_of (look base slots a))) []
performed (action.BoxBool a) base slots = Gives (boxed_truth_of (look base slots a)) []
performed (action.UnboxLong a) base slots = unboxed_of (look base slots a)
performed (action.Truth a) base slots = Gives (truth_of (look base slots a)) []
performed (action.Raise code text) base slots = Quits (Raised code text)
performed action.Args base slots = Gives (bits_of Nil) []
performed (action.Status a) base slots = Gives (status_of (look base slots a)) []
performed (action.Primitive p o) base slots = acted p (look base slots o.first) (look base slots o.second) (look base slots o.third)

-- the next state and what is written, or the end
pub data Move : Type 0 where
  Goes : (next : Config) (bytes : List ℕ) → Move
  Ends : (e : End) → Move

abbrev pub delivered : Target → ℕ → Config → Config
delivered (target.Local x) v c = record { fun = c.fun; pc = c.pc; base = c.base; turns = c.turns; slots = slice_set c.slots (c.base + x) v; frames = c.frames; value = v }
delivered target.Nowhere v c = record { fun = c.fun; pc = c.pc; base = c.base; turns = c.turns; slots = c.slots; frames = c.frames; value = v }
delivered target.Caller v c = record { fun = c.fun; pc = 0; base = c.base; turns = c.turns; slots = c.slots; frames = c.frames; value = v }
delivered (target.Test other) v c = record { fun = c.fun; pc = if nat_eq v 0 then other else c.pc; base = c.base; turns = c.turns; slots = c.slots; frames = c.frames; value = v }

abbrev pub sent : Target → Gave → Config → Move
sent to (Gives v bytes) c = Goes (delivered to v c) bytes
sent to (Quits e) c = Ends e

abbrev pub called : Option Function → Target → ℕ → List Operand → Config → Move
called None to g args c = Ends (Fault Entry)
called (Some f) to g args c = Goes (record {
  fun = g;
  pc = 1;
  base = length c.slots;
  turns = c.turns;
  slots = c.slots ++ (map (look c.base c.slots) args ++ replicate f.locals 0);
  frames = record { to = to; fun = c.fun; next = c.pc; base = c.base } ∷ c.frames;
  value = c.value;
}) []

-- the caller, as it stands when it gets the value
abbrev pub resumed : Frame → List Frame → Config → Config
resumed f fs c = record { fun = f.fun; pc = f.next; base = f.base; turns = c.turns; slots = take c.base c.slots; frames = fs; value = c.value }

abbrev pub returned : List Frame → Config → Move
returned [] c = Ends (Ended c.value)
returned (f ∷ fs) c = Goes (delivered f.to c.value (resumed f fs c)) []

abbrev pub turned : ℕ → Config → Move
turned zero c = Ends Spent
turned (suc t) c = Goes (record { fun = c.fun; pc = 2; base = c.base; turns = t; slots = c.slots; frames = c.frames; value = c.value }) []

-- what an instruction does. The place in this state is that of the one after it
abbrev pub act : Instr → List Function → Config → Move
act (instr.Does to a) funs c = sent to (performed a c.base c.slots) c
act (instr.Call to g args) funs c = called (slice_get funs g) to g args c
act instr.Turn funs c = turned c.turns c
act instr.Give funs c = returned c.frames c
act instr.Stop funs c = Ends (Fault Tag)

-- what an instruction needs: its slots and functions are there, and numbers are where they are wanted
abbrev pub Reads : ℕ → List ℕ → Operand → Type 0
Reads base slots (operand.Local x) = base + x < length slots
Reads base slots (operand.Word w) = w < 2 ^ 64

abbrev pub ReadsNumber : ℕ → List ℕ → Operand → Type 0
ReadsNumber base slots a = Reads base slots a × IsFixnum (long_of (look base slots a))

abbrev pub ReadsAll : ℕ → List ℕ → List Operand → Type 0
ReadsAll base slots [] = Unit {0}
ReadsAll base slots (a ∷ others) = Reads base slots a × ReadsAll base slots others

-- a number is the bits of a fixnum
abbrev pub NeedsOperand : ℕ → List ℕ → Wants → Operand → Type 0
NeedsOperand base slots (AType Long) a = ReadsNumber base slots a
NeedsOperand base slots _ a = Reads base slots a

abbrev pub NeedsOperands : ℕ → List ℕ → List Wants → List Operand → Type 0
NeedsOperands base slots [] others = Unit {0}
NeedsOperands base slots (w ∷ ws) [] = ⊥
NeedsOperands base slots (w ∷ ws) (a ∷ others) = NeedsOperand base slots w a × NeedsOperands base slots ws others

abbrev pub NeedsAction : Action → ℕ → List ℕ → Type 0
NeedsAction (action.Copy a) base slots = Reads base slots a
NeedsAction (action.BoxLong a) base slots = ReadsNumber base slots a
NeedsAction (action.BoxBool a) base slots = Reads base slots a
NeedsAction (action.UnboxLong a) base slots = Reads base slots a
NeedsAction (action.Truth a) base slots = Reads base slots a
NeedsAction (action.Raise code text) base slots = Unit {0}
NeedsAction action.Args base slots = Unit {0}
NeedsAction (action.Status a) base slots = Reads base slots a
NeedsAction (action.Primitive p o) base slots = NeedsOperands base slots (wants_of (primitive_op p)) (o.first ∷ o.second ∷ o.third ∷ [])

abbrev pub NeedsTarget : Target → ℕ → List ℕ → Type 0
NeedsTarget (target.Local x) base slots = base + x < length slots
NeedsTarget target.Nowhere base slots = Unit {0}
NeedsTarget target.Caller base slots = Unit {0}
NeedsTarget (target.Test other) base slots = Unit {0}

abbrev pub NeedsFrames : List Frame → Config → Type 0
NeedsFrames [] c = c.value < 256
NeedsFrames (f ∷ fs) c = NeedsTarget f.to f.base (take c.base c.slots)

abbrev pub Needs : Instr → List Function → Config → Type 0
Needs (instr.Does to a) funs c = NeedsTarget to c.base c.slots × NeedsAction a c.base c.slots
Needs (instr.Call to g args) funs c = (g < length funs) × ReadsAll c.base c.slots args
Needs instr.Turn funs c = Unit {0}
Needs instr.Give funs c = NeedsFrames c.frames c
Needs instr.Stop funs c = Unit {0}

-- what a call has to have done that ends the run, where it isn't refused memory
abbrev pub Stopped : End → Flow → End → Type 0
Stopped e Going end = ⊥
Stopped e Over end = end ≡ e
Stopped e WriteFault end = ⊥
Stopped e Memory end = Unit {0}

-- what a call has to have done that makes a value and writes nothing, where it isn't refused memory
abbrev pub Yields : Gave → Flow → ℕ → End → Type 0
Yields (Gives v bytes) Going value end = (value ≡ v) × (bytes ≡ [])
Yields (Gives v bytes) Over value end = ⊥
Yields (Gives v bytes) WriteFault value end = ⊥
Yields (Gives v bytes) Memory value end = ⊥
Yields (Quits e) Going value end = ⊥
Yields (Quits e) Over value end = end ≡ e
Yields (Quits e) WriteFault value end = ⊥
Yields (Quits e) Memory value end = Unit {0}

-- what a call of `perform` has to have done
abbrev pub Performs : Gave → Flow → ℕ → End → Option (List ℕ) → Option (List ℕ) → Type 0
Performs (Gives v bytes) Going value end before now = (value ≡ v) × Added before now bytes
Performs (Gives v bytes) Over value end before now = ⊥
Performs (Gives v bytes) WriteFault value end before now = AddedPart before now bytes
Performs (Gives v bytes) Memory value end before now = ⊥
Performs (Quits e) Going value end before now = ⊥
Performs (Quits e) Over value end before now = (end ≡ e) × Added before now []
Performs (Quits e) WriteFault value end before now = ⊥
Performs (Quits e) Memory value end before now = Added before now []

-- what a call that writes nothing has to have done, where it isn't refused memory
abbrev pub Moves : Move → Flow → Config → End → Type 0
Moves (Goes c bytes) Going new end = (new ≡ c) × (bytes ≡ [])
Moves (Goes c bytes) Over new end = ⊥
Moves (Goes c bytes) WriteFault new end = ⊥
Moves (Goes c bytes) Memory new end = Unit {0}
Moves (Ends e) Going new end = ⊥
Moves (Ends e) Over new end = end ≡ e
Moves (Ends e) WriteFault new end = ⊥
Moves (Ends e) Memory new end = ⊥

-- what a step has to have done
abbrev pub Does : Move → Flow → Config → End → Option (List ℕ) → Option (List ℕ) → Type 0
Does (Goes c bytes) Going new end before now = (new ≡ c) × Added before now bytes
Does (Goes c bytes) Over new end before now = ⊥
Does (Goes c bytes) WriteFault new end before now = AddedPart before now bytes
Does (Goes c bytes) Memory new end before now = AddedPart before now bytes
Does (Ends e) Going new end before now = ⊥
Does (Ends e) Over new end before now = (end ≡ e) × Added before now []
Does (Ends e) WriteFault new end before now = ⊥
Does (Ends e) Memory new end before now = Added before now []

-- the line at a place of a function
abbrev pub line_in : Option Function → ℕ → Option Line
line_in None pc = None
line_in (Some f) pc = slice_get f.code pc

abbrev pub line_at : List Function → ℕ → ℕ → Option Line
line_at funs fun pc = line_in (slice_get funs fun) pc

-- a line's instruction is done with the place of the one after it
abbrev pub advanced : ℕ → Config → Config
advanced next c = record { fun = c.fun; pc = next; base = c.base; turns = c.turns; slots = c.slots; frames = c.frames; value = c.value }
