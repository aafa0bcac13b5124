-- What is decided of definitions and values, one step at a time.
use Rattle.std.specs.Prelude.{◌≡◌, Bool, true, false, if◌then◌else◌, is_none, List, Option, Some, None, Result, Ok, Err}
use Rattle.scheme_data.specs.Forms.{Form, Forms, listed, end, next}
use Rattle.syntax_rules.specs.Trees.{Macro}
use Rattle.core_forms.specs.Scope.{Marked, keyword}
use Rattle.core_forms.specs.Names.{binder_of}
use Rattle.core_forms.specs.Bodies.{Definition, value, procedure, definable, again, settled}
use Rattle.core_forms.specs.Working.{open_of}
use Rattle.core_forms.specs.declared.core_form.Binder.{Binder}
use Rattle.core_forms.specs.declared.counting.Counts.{Counts}
use Rattle.core_forms.specs.declared.error.ExpandErr.{ExpandErr}
use Rattle.core_forms.specs.declared.error.ExpandErr.TheVariants as fault
use Rattle.expansion_steps.specs.Steps.{SettlesAs}
use Rattle.expansion_steps.specs.declared.looking.Step.{Step}
use Rattle.expansion_steps.specs.declared.looking.Step.TheVariants as step

-- a name that may be defined
abbrev pub defined_name : Option Binder → Option Binder
defined_name None = None
defined_name (Some x) = if is_none (keyword x.name) then Some x else None

abbrev pub is_listed : Form → Bool
is_listed (listed at ds) = true
is_listed _ = false

-- behind the word of a definition, a name with its value or one with its parameters
abbrev pub value_in : Form → Form → Forms → Option Definition
value_in word x (next e end) = definable (binder_of true x) (λ y. value y word x e)
value_in word x _ = None

abbrev pub procedure_in : Form → Forms → Option Definition
procedure_in (listed p (next f xs)) (next b bs) = definable (binder_of true f) (λ x. procedure x (next (listed p xs) (next b bs)))
procedure_in _ _ = None

abbrev pub second_in : Form → Form → Forms → Option Definition
second_in word x ds = if is_listed x then procedure_in x ds else value_in word x ds

abbrev pub is_memory : ExpandErr → Bool
is_memory fault.Memory = true
is_memory _ = false

module _ (ks : List Macro) (s : List Marked) where
  -- a value is settled, or another stands in its place
  abbrev pub StepAs : Counts → Form → Result Step ExpandErr → Counts → Type 0
  StepAs n d (Ok (step.Done v)) after = SettlesAs ks s n d (Ok v) after
  StepAs n d (Ok (step.Again o)) after = settled ks s n d ≡ again after (open_of o)
  StepAs n d (Err e) after = SettlesAs ks s n d (Err e) after
