-- What the forms of a named `let` and of a `do` are made of.
use Rattle.std.specs.Prelude.{◌≡◌, ℕ, Bool, true, false, if◌then◌else◌, is_some, List, Option, Some, None}
use Rattle.scheme_data.specs.declared.datum.Place.{Place}
use Rattle.scheme_data.specs.declared.datum.Datum.{Datum}
use Rattle.scheme_data.specs.Forms.{Form, Forms, symbol, end, next, form}
use Rattle.scheme_data.specs.TypedNames.{Typed, typed, has_type}
use Rattle.core_forms.specs.Names.{are_pairs, firsts, seconds, names_of}
use Rattle.core_forms.specs.Code.{data_of, items_in}
use Rattle.core_forms.specs.declared.binders.Bindings.{Bindings}
use Rattle.derived_forms.specs.declared.loops.LetParts.{LetParts}
use Rattle.derived_forms.specs.declared.loops.DoParts.{DoParts}
use Rattle.derived_forms.specs.declared.loops.Variable.{Variable}
use Rattle.derived_forms.specs.declared.loops.Variables.{Variables}

-- A named `let` ------------------------------------------------------------------------

abbrev pub is_typed : Form → Bool
is_typed (symbol at x m) = has_type x
is_typed _ = false

pub record NamedLet : Type 0 where
  pub name : Form
  pub bindings : Forms
  pub body : Forms

-- a name without a type, a list and at least one form
abbrev pub let_with : Form → Option Forms → Forms → Option NamedLet
let_with x None bs = None
let_with x (Some xs) end = None
let_with x (Some xs) (next b bs) = if is_typed x then None else Some (record { name = x; bindings = xs; body = next b bs })

abbrev pub let_parts : Forms → Option NamedLet
let_parts end = None
let_parts (next x end) = None
let_parts (next x (next d bs)) = let_with x (items_in d) bs

abbrev pub let_view : LetParts → NamedLet
let_view p = record { name = form p.name; bindings = data_of p.bindings; body = data_of p.body }

-- the two sides of bindings of names that are distinct
pub record AreSides (ds : Forms) (names values : List Datum) : Type 0 where
  pub named : is_some (names_of true ds) ≡ true
  pub pairs : are_pairs ds ≡ true
  pub names_are : firsts ds ≡ data_of names
  pub values_are : seconds ds ≡ data_of values

abbrev pub SidesAs : Forms → Option Bindings → Type 0
SidesAs ds None = is_some (names_of true ds) ≡ false
SidesAs ds (Some b) = AreSides ds b.names b.values

-- The variables of a `do` --------------------------------------------------------------

pub record Stepped : Type 0 where
  pub name : Form
  pub value : Form
  pub step : Form

abbrev pub variable_view : Variable → Stepped
variable_view v = record { name = form v.name; value = form v.value; step = form v.step }

abbrev pub named_with : Place → ℕ → Option Typed → Option Form
named_with at m None = None
named_with at m (Some t) = Some (symbol at t.name m)

-- a name without its type; none where it can't be bound
abbrev pub bare_name : Form → Option Form
bare_name (symbol at x m) = named_with at m (typed x)
bare_name _ = None

abbrev pub step_or : Option Form → Form → Option Form
step_or (Some s) x = Some s
step_or None x = bare_name x

abbrev pub with_step : Form → Form → Option Form → Option Stepped
with_step x i None = None
with_step x i (Some s) = Some (record { name = x; value = i; step = s })

-- `x i s` or `x i`
abbrev pub variable_in : Forms → Option Stepped
variable_in (next x (next i end)) = with_step x i (step_or None x)
variable_in (next x (next i (next s end))) = with_step x i (step_or (Some s) x)
variable_in _ = None

abbrev pub variable_from : Option Forms → Option Stepped
variable_from None = None
variable_from (Some ds) = variable_in ds

abbrev pub variable_of : Form → Option Stepped
variable_of d = variable_from (items_in d)

pub record Columns : Type 0 where
  pub names : Forms
  pub values : Forms
  pub steps : Forms

abbrev pub columns : Forms → Forms → Forms → Columns
columns xs es ss = record { names = xs; values = es; steps = ss }

abbrev pub columns_view : Variables → Columns
columns_view v = columns (data_of v.names) (data_of v.values) (data_of v.steps)

abbrev pub onto_columns : Option Stepped → Option Columns → Option Columns
onto_columns None o = None
onto_columns (Some v) None = None
onto_columns (Some v) (Some c) = Some (columns (next v.name c.names) (next v.value c.values) (next v.step c.steps))

abbrev pub columns_of : Forms → Option Columns
columns_of end = Some (columns end end end)
columns_of (next d ds) = onto_columns (variable_of d) (columns_of ds)

-- A `do` -------------------------------------------------------------------------------

pub record Repeated : Type 0 where
  pub header : Forms
  pub test : Form
  pub ending : Forms
  pub body : Forms

abbrev pub do_with : Option Forms → Option Forms → Forms → Option Repeated
do_with None o bs = None
do_with (Some xs) None bs = None
do_with (Some xs) (Some end) bs = None
do_with (Some xs) (Some (next e rs)) bs = Some (record { header = xs; test = e; ending = rs; body = bs })

abbrev pub do_parts : Forms → Option Repeated
do_parts end = None
do_parts (next x end) = None
do_parts (next x (next d bs)) = do_with (items_in x) (items_in d) bs

abbrev pub do_view : DoParts → Repeated
do_view p = record { header = data_of p.header; test = form p.test; ending = data_of p.ending; body = data_of p.body }
