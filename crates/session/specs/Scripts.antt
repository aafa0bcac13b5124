-- A script as a fold over its lines.
use Rattle.std.specs.Prelude.{◌≡◌, ◌⊎◌, ℕ, ◌+◌, ◌≤◌, ◌<◌, List, [], ◌∷◌, ◌++◌, length, map, take, drop, unwrap_or, Option, Some, None, Result, Ok, Err, Contains}
use Rattle.std.specs.Ordering.{nat_cmp}
use Rattle.std.specs.Cmp.Lexicographic.{slice_cmp}
use Rattle.std.specs.FinMap.{FinMap, get, insert, empty}
use Rattle.scheme_data.specs.declared.datum.LimitKind.TheVariants.{Bytes as TheBytes}
use Rattle.base_io.specs.Contents.{Bytes, Contents}
use Rattle.base_io.specs.declared.end.End.{End}
use Rattle.commands.specs.declared.command.Command.{Command}
use Rattle.commands.specs.declared.command.Request.TheVariants.{Line, Do, Sample}
use Rattle.commands.specs.Commands.{request_of, script_of}
use Rattle.session.specs.declared.answer.Refusal.TheVariants.{NotBuilt, Limit}
use Rattle.session.specs.declared.answer.Effect.{Effect}
use Rattle.session.specs.declared.answer.Effect.TheVariants.{Nothing, Wrote, Ran}
use Rattle.session.specs.declared.errors.Halt.{Halt}
use Rattle.session.specs.declared.errors.Halt.TheVariants as halt
use Rattle.session.specs.declared.errors.Stop.{Stop}
use Rattle.session.specs.declared.errors.Stop.TheVariants as stop
use Rattle.session.specs.declared.answer.Answer.{Answer}
use Rattle.session.specs.declared.answer.Answer.TheVariants as answer
use Rattle.session.specs.Outside.{missing}
use Rattle.session.specs.Works.{Kind, as_given, Held, Stands, reads_of, writes_of, kind_of_work, Gives, Refuses, MayAdd}

-- the most bytes of a script
abbrev pub longest : ℕ
longest = 1048576

-- The state between two lines ---------------------------------------------------------------

pub record State : Type 0 where
  pub files : Contents  -- what each name has
  pub kinds : FinMap (slice_cmp nat_cmp) Kind  -- what is known of it; a name that isn't here was handed in
  pub left : Bytes  -- what the source has left
  pub input : Option Bytes  -- the input, once it was read, which no line does yet
  pub output : Bytes
  pub ends : List End

abbrev pub start : Contents → Bytes → State
start files left = record { files = files; kinds = empty; left = left; input = None; output = []; ends = [] }

-- what a name has, and what is known of it
abbrev pub held : State → Bytes → Held
held s name = record { bytes = unwrap_or (get s.files name) []; kind = unwrap_or (get s.kinds name) as_given }

-- each name has what stands for what is known of it
unfoldable pub Kept : State → Type 0
Kept s = (name : Bytes) → Stands (held s name).kind (held s name).bytes

-- A line that is done -----------------------------------------------------------------------

-- the state after bytes were added and an effect came
abbrev pub after : Kind → Bytes → Effect → State → State
after kind added Nothing s = record { files = s.files; kinds = s.kinds; left = s.left; input = s.input; output = s.output ++ added; ends = s.ends }
after kind added (Wrote name bytes) s = record { files = insert s.files name bytes; kinds = insert s.kinds name kind; left = s.left; input = s.input; output = s.output ++ added; ends = s.ends }
after kind added (Ran end) s = record { files = s.files; kinds = s.kinds; left = s.left; input = s.input; output = s.output ++ added; ends = s.ends ++ end ∷ [] }

-- from s to t
pub record Steps (c : Command) (s t : State) : Type 0 where
  pub there : missing s.files (reads_of c) ≡ None
  pub added : Bytes
  pub effect : Effect
  pub gives : Gives c (map (held s) (reads_of c)) added effect
  pub then : t ≡ after (kind_of_work c (map (held s) (reads_of c))) added effect s

-- lines are done, one after another
unfoldable pub Reaches : List (Option Command) → State → State → Type 0
Reaches [] s t = t ≡ s
Reaches (None ∷ lines) s t = ⊥
Reaches (Some c ∷ lines) s t = (m : State) × (Steps c s m × Reaches lines m t)

-- A line that is not done -------------------------------------------------------------------

-- why
unfoldable pub Stops : Command → State → Halt → Type 0
Stops c s (halt.NoFile name) = missing s.files (reads_of c) ≡ Some name
Stops c s (halt.Refused refusal) = (missing s.files (reads_of c) ≡ None) × Refuses c (map (held s) (reads_of c)) refusal
Stops c s (halt.FileFault name) = Contains (reads_of c) name ⊎ Contains (writes_of c) name
Stops c s halt.WriteFault = Unit {0}
Stops c s halt.Memory = Unit {0}

-- files and sink are as the state says
pub record Same (s : State) (base : Bytes) (contents : Option Contents) (written : Option Bytes) : Type 0 where
  pub files_are : contents ≡ Some s.files
  pub written_is : written ≡ Some (base ++ s.output)

-- the files still tell, and all other names have what they had
abbrev pub FilesBut : List Bytes → Contents → Option Contents → Type 0
FilesBut names old None = ⊥
FilesBut names old (Some new) = (name : Bytes) → (Contains names name → ⊥) → get new name ≡ get old name

-- a line was cut off: the name that it writes has anything, and the first of the bytes that it adds were written
pub record CutOff (c : Command) (s : State) (base : Bytes) (contents : Option Contents) (written : Option Bytes) : Type 0 where
  pub files_are : FilesBut (writes_of c) s.files contents
  pub added : Bytes
  pub part : MayAdd c (map (held s) (reads_of c)) added
  pub written_is : written ≡ Some (base ++ s.output ++ added)

-- what it leaves
unfoldable pub Remains : Command → State → Halt → Bytes → Option Contents → Option Bytes → Type 0
Remains c s (halt.NoFile name) base contents written = Same s base contents written
Remains c s (halt.Refused refusal) base contents written = Same s base contents written
Remains c s (halt.FileFault name) base contents written = CutOff c s base contents written
Remains c s halt.WriteFault base contents written = CutOff c s base contents written
Remains c s halt.Memory base contents written = CutOff c s base contents written

-- A line ------------------------------------------------------------------------------------

-- files, sink and ends are as the state says, and each name has what it should
pub record Agrees (s : State) (base : Bytes) (contents : Option Contents) (written : Option Bytes) (ends : List End) : Type 0 where
  pub same : Same s base contents written
  pub ends_are : ends ≡ s.ends
  pub kept : Kept s

unfoldable pub LineDid : Command → State → Result (Unit {0}) Halt → Bytes → Option Contents → Option Bytes → List End → Type 0
LineDid c s (Ok done) base contents written ends = (t : State) × (Steps c s t × Agrees t base contents written ends)
LineDid c s (Err h) base contents written ends = Stops c s h × Remains c s h base contents written

-- A script ----------------------------------------------------------------------------------

-- the answer for a line that was not done
abbrev pub answer_of : Halt → ℕ → Answer
answer_of (halt.NoFile name) n = answer.NoFile name
answer_of (halt.Refused refusal) n = answer.Refused n refusal
answer_of (halt.FileFault name) n = answer.FileFault name
answer_of halt.WriteFault n = answer.WriteFault
answer_of halt.Memory n = answer.Memory

abbrev pub answer_of_stop : Stop → Answer
answer_of_stop (stop.BadLine n) = answer.BadLine n
answer_of_stop (stop.Halted n h) = answer_of h n

-- the answer for a line that is all there is
abbrev pub answer_of_line : Result (List End) Halt → Answer
answer_of_line (Ok ends) = answer.Done ends
answer_of_line (Err h) = answer_of h 1

-- the answer for lines that were done, or for what stopped them
abbrev pub answer_of_lines : Result (List End) Stop → Answer
answer_of_lines (Ok ends) = answer.Done ends
answer_of_lines (Err s) = answer_of_stop s

-- what comes after the lines that were done
pub data Last (rest : List (Option Command)) (number : ℕ) (s : State) (base : Bytes) (a : Answer) (contents : Option Contents) (written : Option Bytes) : Type 0 where
  finished : rest ≡ [] → a ≡ answer.Done s.ends → Same s base contents written → Last rest number s base a contents written
  bad_line : (more : List (Option Command)) → rest ≡ None ∷ more → a ≡ answer.BadLine number → Same s base contents written → Last rest number s base a contents written
  halted : (c : Command) (more : List (Option Command)) (h : Halt) → rest ≡ Some c ∷ more → a ≡ answer_of h number → Stops c s h → Remains c s h base contents written → Last rest number s base a contents written
  no_memory : a ≡ answer.Memory → Same s base contents written → Last rest number s base a contents written

-- the first lines were done, so many of them, and then this answer came
pub record ScriptDid (lines : List (Option Command)) (files : Contents) (source base : Bytes) (a : Answer) (contents : Option Contents) (left written : Option Bytes) : Type 0 where
  pub count : ℕ
  pub few : count ≤ length lines
  pub state : State
  pub reached : Reaches (take count lines) (start files source) state
  pub kept : Kept state
  pub left_is : left ≡ Some state.left
  pub last : Last (drop count lines) (count + 1) state base a contents written

-- The program -------------------------------------------------------------------------------

pub record Untouched (files : Contents) (source base : Bytes) (contents : Option Contents) (left written : Option Bytes) : Type 0 where
  pub files_are : contents ≡ Some files
  pub left_is : left ≡ Some source
  pub written_is : written ≡ Some base

-- what a script did, by its name
pub data NamedDid (name : Bytes) (files : Contents) (source base : Bytes) (a : Answer) (contents : Option Contents) (left written : Option Bytes) : Type 0 where
  no_script : get files name ≡ None → a ≡ answer.NoFile name → Untouched files source base contents left written → NamedDid name files source base a contents left written
  long_script : (bytes : Bytes) → get files name ≡ Some bytes → longest < length bytes → a ≡ answer.Refused 0 (Limit TheBytes) → Untouched files source base contents left written → NamedDid name files source base a contents left written
  script : (bytes : Bytes) → get files name ≡ Some bytes → length bytes ≤ longest → ScriptDid (script_of bytes) files source base a contents left written → NamedDid name files source base a contents left written
  script_fault : a ≡ answer.FileFault name → Untouched files source base contents left written → NamedDid name files source base a contents left written
  script_memory : a ≡ answer.Memory → Untouched files source base contents left written → NamedDid name files source base a contents left written

-- what the program did, for its words
pub data ProgramDid (words : List Bytes) (files : Contents) (source base : Bytes) (a : Answer) (contents : Option Contents) (left written : Option Bytes) : Type 0 where
  usage : request_of words ≡ None → a ≡ answer.Usage → Untouched files source base contents left written → ProgramDid words files source base a contents left written
  one_line : (c : Command) → request_of words ≡ Some (Line c) → ScriptDid (Some c ∷ []) files source base a contents left written → ProgramDid words files source base a contents left written
  named : (name : Bytes) → request_of words ≡ Some (Do name) → NamedDid name files source base a contents left written → ProgramDid words files source base a contents left written
  sample : (seed modules functions : ℕ) (out : Bytes) → request_of words ≡ Some (Sample seed modules functions out) → a ≡ answer.Refused 1 NotBuilt → Untouched files source base contents left written → ProgramDid words files source base a contents left written
  memory : a ≡ answer.Memory → Untouched files source base contents left written → ProgramDid words files source base a contents left written
