-- An interface's text read line by line.
use Rattle.std.specs.Prelude.{◌≡◌, ℕ, List, [], ◌∷◌, ◌++◌, Bool, true, false, if◌then◌else◌, Option, Some, None, Result, Ok, Err}
use Rattle.name_table.specs.Names.{has_name}
use Rattle.iface_text.specs.declared.interface.Iface.{Iface}
use Rattle.iface_text.specs.declared.interface.IfaceErr.{IfaceErr}
use Rattle.iface_text.specs.declared.interface.IfaceErr.TheVariants.{NotInterface, Memory}
use Rattle.iface_text.specs.declared.interface.Row.{Row}
use Rattle.iface_text.specs.declared.reader.Reader.{Reader}
use Rattle.iface_text.specs.declared.reader.Stage.{Stage}
use Rattle.iface_text.specs.declared.reader.Stage.TheVariants as stage
use Rattle.iface_text.specs.Format.{IfaceTree, iface_tree, version_line, end_line}
use Rattle.iface_text.specs.Refusal.{lines_and_rest, line_after}
use Rattle.scheme_data.specs.Names.{is_same}
use Rattle.iface_text.specs.Lines.{module_line_name, row_of}

abbrev pub start : Reader
start = record { stage = stage.Version; module_name = []; rows = []; names = [] }

-- One line ----------------------------------------------------------------------------------

abbrev pub step_version : Reader → List ℕ → Option Reader
step_version s line = if is_same line version_line then Some (record s { stage = stage.Module }) else None

abbrev pub named : Reader → Option (List ℕ) → Option Reader
named s None = None
named s (Some name) = Some (record s { stage = stage.Rows; module_name = name })

abbrev pub step_module : Reader → List ℕ → Option Reader
step_module s line = named s (module_line_name line)

abbrev pub with_row : Reader → Row → Reader
with_row s r = record s { rows = s.rows ++ r ∷ []; names = s.names ++ r.name ∷ [] }

abbrev pub one_more : Reader → Option Row → Option Reader
one_more s None = None
one_more s (Some r) = if has_name s.names r.name then None else Some (with_row s r)

abbrev pub step_rows : Reader → List ℕ → Option Reader
step_rows s line = if is_same line end_line then Some (record s { stage = stage.Done }) else one_more s (row_of line)

abbrev pub step_by : Stage → Reader → List ℕ → Option Reader
step_by stage.Version s line = step_version s line
step_by stage.Module s line = step_module s line
step_by stage.Rows s line = step_rows s line
step_by stage.Done s line = None

unfoldable pub step : Reader → List ℕ → Option Reader
step s line = step_by s.stage s line

-- whether the line was taken, and what it left
abbrev pub Takes : Bool → Option Reader → Reader → Type 0
Takes true next new = next ≡ Some new
Takes false next new = next ≡ None

-- All lines ---------------------------------------------------------------------------------

abbrev pub finished : Stage → Reader → ℕ → Result IfaceTree ℕ
finished stage.Version s number = Err number
finished stage.Module s number = Err number
finished stage.Rows s number = Err number
finished stage.Done s number = Ok (record { module_name = s.module_name; rows = s.rows })

-- what follows the last byte 10, which stands in the line of this number
abbrev pub at_end : Reader → ℕ → List ℕ → Result IfaceTree ℕ
at_end s number [] = finished s.stage s number
at_end s number (_ ∷ _) = Err number

-- the interface, or the number of the first bad line, of a line and those after it
abbrev pub answer : List (List ℕ) → Reader → ℕ → List ℕ → Result IfaceTree ℕ
answer [] s number line = at_end s number line
answer (next ∷ lines) s number line = elim (step s line) [ None ↦ Err number | Some t ↦ answer lines t (line_after number) next ]

abbrev pub answer_from : Reader → ℕ → List (List ℕ) → Result IfaceTree ℕ
answer_from s number [] = Err number
answer_from s number (line ∷ lines) = answer lines s number line

-- what a text tells to a reader at the line of this number
unfoldable pub answer_to : Reader → ℕ → List ℕ → Result IfaceTree ℕ
answer_to s number bytes = answer_from s number (lines_and_rest bytes)

abbrev pub answer_of : List ℕ → Result IfaceTree ℕ
answer_of bytes = answer_to start 1 bytes

abbrev pub refused_at : ℕ → IfaceErr
refused_at number = NotInterface (record { line = number; column = 1 })

-- unless memory runs out
abbrev pub AnswersAs : Result Iface IfaceErr → Result IfaceTree ℕ → Type 0
AnswersAs (Ok i) answer = answer ≡ Ok (iface_tree i)
AnswersAs (Err (NotInterface at)) answer = (answer ≡ Err at.line) × (at.column ≡ 1)
AnswersAs (Err Memory) answer = Unit {0}
