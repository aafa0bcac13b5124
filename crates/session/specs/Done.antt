-- What the functions for each command answer.
use Rattle.std.specs.Prelude.{◌≡◌, ◌⊎◌, ℕ, List, ◌++◌, Option, Some, None, Result, Ok, Err}
use Rattle.base_io.specs.Contents.{Bytes}
use Rattle.base_io.specs.Observation.{Observation}
use Rattle.base_io.specs.declared.end.End.{End}
use Rattle.base_io.specs.declared.end.RunErr.{RunErr}
use Rattle.c_tree.specs.Code.{Item}
use Rattle.c_tree.specs.Functions.{items_of}
use Rattle.c_tree.specs.Spelling.{CText}
use Rattle.c_tree.specs.declared.function.CProgram.{CProgram}
use Rattle.c_machine.specs.Runs.{WrotePart}
use Rattle.unit_compile.specs.declared.error.UnitErr.{UnitErr}
use Rattle.unit_compile.specs.declared.error.UnitErr.TheVariants as unit
use Rattle.unit_compile.specs.Compilation.{Exported, Compiled}
use Rattle.linker.specs.declared.linking.LinkErr.{LinkErr}
use Rattle.linker.specs.declared.linking.LinkErr.TheVariants as linking
use Rattle.linker.specs.Links.{Linked}
use Rattle.commands.specs.declared.command.Command.{Command}
use Rattle.session.specs.declared.answer.Effect.{Effect}
use Rattle.session.specs.declared.answer.Refusal.{Refusal}
use Rattle.c_meaning.specs.Checked.{IsChecked, IsFirstBreach, breach}
use Rattle.session.specs.declared.answer.Refusal.TheVariants.{NotBuilt, Syntax, Limit, Header, Duplicate, BadRules, NoRule, Form, BadC, MissingModule, MissingName}
use Rattle.session.specs.declared.errors.MakeErr.{MakeErr}
use Rattle.session.specs.declared.errors.MakeErr.TheVariants as make
use Rattle.session.specs.declared.errors.WorkErr.{WorkErr}
use Rattle.session.specs.declared.errors.WorkErr.TheVariants as work
use Rattle.session.specs.Works.{Held, Gives, Refuses, MayAdd, IsProgramText, TextRuns, printed, ExportRefuses, CompileRefuses, LinkRefuses, RunRefuses}

-- why nothing is made of a source
abbrev pub make_err_of : UnitErr → MakeErr
make_err_of (unit.Syntax at) = make.Refused (Syntax at)
make_err_of (unit.Limit kind) = make.Refused (Limit kind)
make_err_of (unit.Header at) = make.Refused (Header at)
make_err_of (unit.Duplicate name) = make.Refused (Duplicate name)
make_err_of (unit.BadRules at) = make.Refused (BadRules at)
make_err_of (unit.NoRule at) = make.Refused (NoRule at)
make_err_of (unit.Form at) = make.Refused (Form at)
make_err_of unit.NotBuilt = make.Refused NotBuilt
make_err_of unit.Memory = make.Memory

-- why nothing is made of objects
abbrev pub make_err_of_link : LinkErr → MakeErr
make_err_of_link (linking.MissingModule n m) = make.Refused (MissingModule n m)
make_err_of_link (linking.MissingName n m name) = make.Refused (MissingName n m name)
make_err_of_link linking.NotBuilt = make.Refused NotBuilt
make_err_of_link linking.Memory = make.Memory

abbrev pub ExportDid : Bytes → Result Bytes MakeErr → Type 0
ExportDid source (Ok text) = Exported source text
ExportDid source (Err (make.Refused r)) = ExportRefuses source r
ExportDid source (Err make.Memory) = Unit {0}

abbrev pub CompileDid : Bytes → List Bytes → Result Bytes MakeErr → Type 0
CompileDid source texts (Ok text) = Compiled source texts text
CompileDid source texts (Err (make.Refused r)) = CompileRefuses source texts r
CompileDid source texts (Err make.Memory) = Unit {0}

abbrev pub LinkDid : List Bytes → Result Bytes MakeErr → Type 0
LinkDid objects (Ok text) = Linked objects text
LinkDid objects (Err (make.Refused r)) = LinkRefuses objects r
LinkDid objects (Err make.Memory) = Unit {0}

-- Runs --------------------------------------------------------------------------------------

-- the one tree of a text
pub record HasTree (bytes : Bytes) (items : List Item) : Type 0 where
  pub text : CText bytes items
  pub only : (others : List Item) → CText bytes others → others ≡ items

abbrev pub BreaksRule : List Item → Refusal → Type 0
BreaksRule items (BadC name cause) = IsFirstBreach items (breach name cause)
BreaksRule items _ = ⊥

abbrev pub ProgramRead : Bytes → Result CProgram MakeErr → Type 0
ProgramRead bytes (Ok p) = HasTree bytes (items_of p.items)
ProgramRead bytes (Err (make.Refused r)) = RunRefuses bytes r
ProgramRead bytes (Err make.Memory) = Unit {0}

-- the program itself where it breaks no rule, or its first breach
abbrev pub ProgramChecked : CProgram → Result CProgram MakeErr → Type 0
ProgramChecked p (Ok c) = (c ≡ p) × IsChecked (items_of p.items)
ProgramChecked p (Err (make.Refused r)) = BreaksRule (items_of p.items) r
ProgramChecked p (Err make.Memory) = Unit {0}

abbrev pub Loaded : Bytes → Result CProgram MakeErr → Type 0
Loaded bytes (Ok p) = IsProgramText bytes (items_of p.items)
Loaded bytes (Err (make.Refused r)) = RunRefuses bytes r
Loaded bytes (Err make.Memory) = Unit {0}

-- where the sink tells: all that the run writes, or a part of it
abbrev pub RanTo : Option Bytes → Option Bytes → Observation → Result End RunErr → Type 0
RanTo None new seen result = Unit {0}
RanTo (Some old) new seen (Ok end) = (end ≡ seen.end) × (new ≡ Some (old ++ printed seen))
RanTo (Some old) new seen (Err e) = WrotePart old new (printed seen)

-- a run that was cut off before or while it wrote
abbrev pub CutRun : Bytes → Option Bytes → Bytes → List Bytes → ℕ → Type 0
CutRun old new bytes args turns = (seen : Observation) × (TextRuns bytes args turns seen × WrotePart old new (printed seen))

abbrev pub TextRan : Option Bytes → Option Bytes → Bytes → List Bytes → ℕ → Result End WorkErr → Type 0
TextRan None new bytes args turns result = Unit {0}
TextRan (Some old) new bytes args turns (Ok end) = (seen : Observation) × (TextRuns bytes args turns seen × (end ≡ seen.end) × (new ≡ Some (old ++ printed seen)))
TextRan (Some old) new bytes args turns (Err (work.Refused r)) = RunRefuses bytes r × (new ≡ Some old)
TextRan (Some old) new bytes args turns (Err work.WriteFault) = CutRun old new bytes args turns
TextRan (Some old) new bytes args turns (Err work.Memory) = (new ≡ Some old) ⊎ CutRun old new bytes args turns

-- A command ---------------------------------------------------------------------------------

abbrev pub Added : Command → List Held → Bytes → Option Bytes → Type 0
Added c hs old new = (added : Bytes) × (MayAdd c hs added × (new ≡ Some (old ++ added)))

-- where the sink tells: a command was done, refused or cut off
unfoldable pub Performs : Command → List Held → Option Bytes → Option Bytes → Result Effect WorkErr → Type 0
Performs c hs None new result = Unit {0}
Performs c hs (Some old) new (Ok effect) = (added : Bytes) × (Gives c hs added effect × (new ≡ Some (old ++ added)))
Performs c hs (Some old) new (Err (work.Refused r)) = Refuses c hs r × (new ≡ Some old)
Performs c hs (Some old) new (Err work.WriteFault) = Added c hs old new
Performs c hs (Some old) new (Err work.Memory) = Added c hs old new
