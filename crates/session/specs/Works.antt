-- What each command reads, writes, gives and refuses. A further command adds its equations here.
use Rattle.std.specs.Prelude.{◌≡◌, ◌⊎◌, ℕ, List, [], ◌∷◌, ◌++◌, map, codes, false, Option, Some, None}
use Rattle.std.specs.List.{AllByRecursion}
use Rattle.scheme_data.specs.Decimal.{decimal_text}
use Rattle.scheme_data.specs.declared.datum.Place.{Place}
use Rattle.base_io.specs.Contents.{Bytes}
use Rattle.base_io.specs.Observation.{Observation}
use Rattle.base_io.specs.declared.end.End.{End}
use Rattle.base_io.specs.declared.end.End.TheVariants.{Ended, Raised, Spent, Fault}
use Rattle.core_tree.specs.Tree.{ModuleTree}
use Rattle.meaning.specs.Program.{src}
use Rattle.c_tree.specs.Code.{Item}
use Rattle.c_tree.specs.Spelling.{CText}
use Rattle.c_meaning.specs.Program.{cm}
use Rattle.c_meaning.specs.declared.breach.BadCause.{BadCause}
use Rattle.c_meaning.specs.Checked.{IsChecked, IsFirstBreach, breach}
use Rattle.c_meaning.specs.Runnable.{is_runnable, IsRunnable}
use Rattle.c_read.specs.Answers.{IsNoText}
use Rattle.unit_compile.specs.Compilation.{Exported, NotExported, Compiled, NotCompiled}
use Rattle.unit_compile.specs.Refusals.{IsRefusal}
use Rattle.unit_compile.specs.declared.error.UnitErr.TheVariants as unit
use Rattle.linker.specs.declared.linking.LinkErr.TheVariants as linking
use Rattle.linker.specs.Links.{Linked, NotLinked}
use Rattle.whole_program.specs.Sources.{IsProgramOf}
use Rattle.whole_program.specs.Law.{Compilation, sources_of, IsLinkedFrom}
use Rattle.commands.specs.declared.command.Command.{Command}
use Rattle.commands.specs.declared.command.Command.TheVariants.{Blank, Iface, Compile, Link, Run}
use Rattle.session.specs.declared.answer.Refusal.{Refusal}
use Rattle.session.specs.declared.answer.Refusal.TheVariants.{NotBuilt, Syntax, Limit, Header, Duplicate, BadRules, NoRule, Form, NotC, BadC, MissingModule, MissingName}
use Rattle.session.specs.declared.answer.Effect.{Effect}
use Rattle.session.specs.declared.answer.Effect.TheVariants.{Nothing, Wrote, Ran}

-- What a name has ---------------------------------------------------------------------------

-- what a script knows of a file: it was handed in, or holds the interface of a source, the object of a source and the interface texts with which it was compiled, or the program of such objects
pub data Kind : Type 0 where
  as_given : Kind
  as_interface : Bytes → Kind
  as_object : Bytes → List Bytes → Kind
  as_program : List Compilation → Kind

-- what was read, and what is known of it
pub record Held : Type 0 where
  pub bytes : Bytes
  pub kind : Kind

abbrev pub bytes_of : List Held → List Bytes
bytes_of hs = map (λ h. h.bytes) hs

-- the bytes are as is known of them
unfoldable pub Stands : Kind → Bytes → Type 0
Stands as_given bytes = Unit {0}
Stands (as_interface source) bytes = Exported source bytes
Stands (as_object source texts) bytes = Compiled source texts bytes
Stands (as_program compilations) bytes = IsLinkedFrom compilations bytes

abbrev pub AllStand : List Held → Type 0
AllStand hs = AllByRecursion (λ h. Stands h.kind h.bytes) hs

-- What a command reads and writes -----------------------------------------------------------

-- the names that it reads, in the order of its words
abbrev pub reads_of : Command → List Bytes
reads_of Blank = []
reads_of (Iface source out) = source ∷ []
reads_of (Compile source out ifaces) = source ∷ ifaces
reads_of (Link out objects) = objects
reads_of (Run program turns args) = program ∷ []

-- the name that it writes
abbrev pub writes_of : Command → List Bytes
writes_of Blank = []
writes_of (Iface source out) = out ∷ []
writes_of (Compile source out ifaces) = out ∷ []
writes_of (Link out objects) = out ∷ []
writes_of (Run program turns args) = []

abbrev pub kind_of_exported : List Held → Kind
kind_of_exported [] = as_given
kind_of_exported (h ∷ hs) = as_interface h.bytes

abbrev pub kind_of_compiled : List Held → Kind
kind_of_compiled [] = as_given
kind_of_compiled (h ∷ hs) = as_object h.bytes (bytes_of hs)

abbrev pub compilation_of : Kind → Option Compilation
compilation_of as_given = None
compilation_of (as_interface source) = None
compilation_of (as_object source texts) = Some (record { source = source; interfaces = texts })
compilation_of (as_program compilations) = None

abbrev pub onto_compilations : Option Compilation → Option (List Compilation) → Option (List Compilation)
onto_compilations None cs = None
onto_compilations (Some c) None = None
onto_compilations (Some c) (Some cs) = Some (c ∷ cs)

-- how each was compiled, where all are objects of this script
abbrev pub compilations_of : List Held → Option (List Compilation)
compilations_of [] = Some []
compilations_of (h ∷ hs) = onto_compilations (compilation_of h.kind) (compilations_of hs)

-- of a program with an object that was handed in nothing is known but its bytes
abbrev pub kind_of_joined : Option (List Compilation) → Kind
kind_of_joined None = as_given
kind_of_joined (Some cs) = as_program cs

abbrev pub kind_of_linked : List Held → Kind
kind_of_linked hs = kind_of_joined (compilations_of hs)

-- what is then known of the name that it writes
abbrev pub kind_of_work : Command → List Held → Kind
kind_of_work Blank hs = as_given
kind_of_work (Iface source out) hs = kind_of_exported hs
kind_of_work (Compile source out ifaces) hs = kind_of_compiled hs
kind_of_work (Link out objects) hs = kind_of_linked hs
kind_of_work (Run program turns args) hs = as_given

-- Runs --------------------------------------------------------------------------------------

-- `error`, the code, the text
abbrev pub error_line : ℕ → Bytes → Bytes
error_line code text = codes "error " ++ decimal_text code ++ 32 ∷ [] ++ text ++ 10 ∷ []

abbrev pub last_line : End → Bytes
last_line (Ended status) = []
last_line (Raised code text) = error_line code text
last_line Spent = []
last_line (Fault kind) = []

-- all that a run writes
abbrev pub printed : Observation → Bytes
printed seen = seen.output ++ last_line seen.end

-- the input of each run, since none is read yet
abbrev pub no_input : Bytes
no_input = []

-- the bytes are the text of one program, which breaks no rule and has forms that the machine does
pub record IsProgramText (bytes : Bytes) (items : List Item) : Type 0 where
  pub text : CText bytes items
  pub checked : IsChecked items
  pub runnable : IsRunnable items
  pub only : (others : List Item) → CText bytes others → others ≡ items

-- a run of what these bytes say
pub record TextRuns (bytes : Bytes) (args : List Bytes) (turns : ℕ) (seen : Observation) : Type 0 where
  pub items : List Item
  pub program : IsProgramText bytes items
  pub is : seen ≡ cm items no_input args turns

-- a run of what the sources mean together
pub record SourcesRun (sources : List Bytes) (args : List Bytes) (turns : ℕ) (seen : Observation) : Type 0 where
  pub program : List ModuleTree
  pub is_program : IsProgramOf sources program
  pub same : (others : List ModuleTree) → IsProgramOf sources others → seen ≡ src others no_input args turns

-- a run of a program of sources is by the sources, and of all else by the bytes
unfoldable pub RunMeans : Kind → Bytes → List Bytes → ℕ → Observation → Type 0
RunMeans as_given bytes args turns seen = TextRuns bytes args turns seen
RunMeans (as_interface source) bytes args turns seen = TextRuns bytes args turns seen
RunMeans (as_object source texts) bytes args turns seen = TextRuns bytes args turns seen
RunMeans (as_program compilations) bytes args turns seen = SourcesRun (sources_of compilations) args turns seen

-- What a command gives ----------------------------------------------------------------------

abbrev pub ExportGives : List Held → Bytes → Effect → Type 0
ExportGives [] out effect = ⊥
ExportGives (h ∷ hs) out effect = (text : Bytes) × ((effect ≡ Wrote out text) × Exported h.bytes text)

abbrev pub CompileGives : List Held → Bytes → Effect → Type 0
CompileGives [] out effect = ⊥
CompileGives (h ∷ hs) out effect = (text : Bytes) × ((effect ≡ Wrote out text) × Compiled h.bytes (bytes_of hs) text)

abbrev pub LinkGives : List Held → Bytes → Effect → Type 0
LinkGives hs out effect = (text : Bytes) × ((effect ≡ Wrote out text) × Linked (bytes_of hs) text)

abbrev pub RunGives : List Held → List Bytes → ℕ → Bytes → Effect → Type 0
RunGives [] args turns added effect = ⊥
RunGives (h ∷ hs) args turns added effect = (seen : Observation) × (RunMeans h.kind h.bytes args turns seen × (added ≡ printed seen) × (effect ≡ Ran seen.end))

-- with what was read for it, the command adds these bytes to the sink and has this effect; a program's arguments begin with its name
unfoldable pub Gives : Command → List Held → Bytes → Effect → Type 0
Gives Blank hs added effect = (added ≡ []) × (effect ≡ Nothing)
Gives (Iface source out) hs added effect = (added ≡ []) × ExportGives hs out effect
Gives (Compile source out ifaces) hs added effect = (added ≡ []) × CompileGives hs out effect
Gives (Link out objects) hs added effect = (added ≡ []) × LinkGives hs out effect
Gives (Run program turns args) hs added effect = RunGives hs (program ∷ args) turns added effect

-- bytes that a command that was cut off may have added: the first of those that it adds
abbrev pub MayAdd : Command → List Held → Bytes → Type 0
MayAdd command hs added = (added ≡ []) ⊎ ((rest : Bytes) × ((effect : Effect) × Gives command hs (added ++ rest) effect))

-- What a command refuses --------------------------------------------------------------------

-- a source is refused for its fault; where it is read, as not built
abbrev pub ExportRefuses : Bytes → Refusal → Type 0
ExportRefuses source NotBuilt = NotExported source
ExportRefuses source (Syntax at) = IsRefusal source (unit.Syntax at)
ExportRefuses source (Limit kind) = IsRefusal source (unit.Limit kind)
ExportRefuses source (Header at) = IsRefusal source (unit.Header at)
ExportRefuses source (Duplicate name) = IsRefusal source (unit.Duplicate name)
ExportRefuses source (BadRules at) = IsRefusal source (unit.BadRules at)
ExportRefuses source (NoRule at) = IsRefusal source (unit.NoRule at)
ExportRefuses source (Form at) = IsRefusal source (unit.Form at)
ExportRefuses source (NotC at) = ⊥
ExportRefuses source (BadC name cause) = ⊥
ExportRefuses source (MissingModule n m) = ⊥
ExportRefuses source (MissingName n m name) = ⊥

abbrev pub CompileRefuses : Bytes → List Bytes → Refusal → Type 0
CompileRefuses source texts NotBuilt = NotCompiled source texts
CompileRefuses source texts (Syntax at) = IsRefusal source (unit.Syntax at)
CompileRefuses source texts (Limit kind) = IsRefusal source (unit.Limit kind)
CompileRefuses source texts (Header at) = IsRefusal source (unit.Header at)
CompileRefuses source texts (Duplicate name) = IsRefusal source (unit.Duplicate name)
CompileRefuses source texts (BadRules at) = IsRefusal source (unit.BadRules at)
CompileRefuses source texts (NoRule at) = IsRefusal source (unit.NoRule at)
CompileRefuses source texts (Form at) = IsRefusal source (unit.Form at)
CompileRefuses source texts (NotC at) = ⊥
CompileRefuses source texts (BadC name cause) = ⊥
CompileRefuses source texts (MissingModule n m) = ⊥
CompileRefuses source texts (MissingName n m name) = ⊥

-- objects are refused for what they lack, or as not built
abbrev pub LinkRefuses : List Bytes → Refusal → Type 0
LinkRefuses objects NotBuilt = NotLinked objects linking.NotBuilt
LinkRefuses objects (Syntax at) = ⊥
LinkRefuses objects (Limit kind) = ⊥
LinkRefuses objects (NotC at) = ⊥
LinkRefuses objects (Header at) = ⊥
LinkRefuses objects (Duplicate name) = ⊥
LinkRefuses objects (BadRules at) = ⊥
LinkRefuses objects (NoRule at) = ⊥
LinkRefuses objects (Form at) = ⊥
LinkRefuses objects (BadC name cause) = ⊥
LinkRefuses objects (MissingModule n m) = NotLinked objects (linking.MissingModule n m)
LinkRefuses objects (MissingName n m name) = NotLinked objects (linking.MissingName n m name)

-- a program whose first breach is this one
pub record IsBad (bytes : Bytes) (name : Bytes) (cause : BadCause) : Type 0 where
  pub items : List Item
  pub text : CText bytes items
  pub first : IsFirstBreach items (breach name cause)

-- a checked program with a form that the machine can't do yet
pub record IsNotBuilt (bytes : Bytes) : Type 0 where
  pub items : List Item
  pub text : CText bytes items
  pub checked : IsChecked items
  pub beyond : is_runnable items ≡ false

-- a program is refused where its text is at fault, for its first breach, or as not built
abbrev pub RunRefuses : Bytes → Refusal → Type 0
RunRefuses bytes NotBuilt = IsNotBuilt bytes
RunRefuses bytes (NotC at) = IsNoText bytes at
RunRefuses bytes (BadC name cause) = IsBad bytes name cause
RunRefuses bytes (Syntax at) = ⊥
RunRefuses bytes (Limit kind) = ⊥
RunRefuses bytes (Header at) = ⊥
RunRefuses bytes (Duplicate name) = ⊥
RunRefuses bytes (BadRules at) = ⊥
RunRefuses bytes (NoRule at) = ⊥
RunRefuses bytes (Form at) = ⊥
RunRefuses bytes (MissingModule n m) = ⊥
RunRefuses bytes (MissingName n m name) = ⊥

-- the command refuses what was read for it
unfoldable pub Refuses : Command → List Held → Refusal → Type 0
Refuses Blank hs refusal = ⊥
Refuses (Iface source out) [] refusal = ⊥
Refuses (Iface source out) (h ∷ hs) refusal = ExportRefuses h.bytes refusal
Refuses (Compile source out ifaces) [] refusal = ⊥
Refuses (Compile source out ifaces) (h ∷ hs) refusal = CompileRefuses h.bytes (bytes_of hs) refusal
Refuses (Link out objects) hs refusal = LinkRefuses (bytes_of hs) refusal
Refuses (Run program turns args) [] refusal = ⊥
Refuses (Run program turns args) (h ∷ hs) refusal = RunRefuses h.bytes refusal
