-- What the steps of the code answer.
use Rattle.std.specs.Prelude.{◌≡◌, ℕ, Bool, true, false, if◌then◌else◌, nat_le, List, Result, Ok, Err}
use Rattle.scheme_data.specs.declared.datum.Datum.{Datum}
use Rattle.scheme_data.specs.declared.datum.Place.{Place}
use Rattle.scheme_data.specs.declared.datum.LimitKind.TheVariants as limit
use Rattle.scheme_data.specs.Forms.{Form, Forms, form_size, form_nesting, form_place, form, next}
use Rattle.syntax_rules.specs.Trees.{Macro}
use Rattle.core_forms.specs.Scope.{Marked, parts_of}
use Rattle.core_forms.specs.Bodies as bodies
use Rattle.core_forms.specs.Bodies.{Used, gives, fails, counted, again, stuck, is_core, is_plain, settled, Look, instead, of_variable, of_function, expression, breach, look, letrec_at}
use Rattle.core_forms.specs.Code.{data_of}
use Rattle.core_forms.specs.Working.{open_of, function_of}
use Rattle.core_forms.specs.declared.counting.Counts.{Counts}
use Rattle.core_forms.specs.declared.words.Keyword.TheVariants as key
use Rattle.core_forms.specs.declared.error.ExpandErr.{ExpandErr}
use Rattle.core_forms.specs.declared.error.ExpandErr.TheVariants as fault
use Rattle.expansion_steps.specs.declared.looking.Settled.{Settled}
use Rattle.expansion_steps.specs.declared.looking.Settled.TheVariants as value
use Rattle.expansion_steps.specs.declared.looking.First.TheVariants as first
use Rattle.expansion_steps.specs.declared.looking.Looked.{Looked}
use Rattle.expansion_steps.specs.declared.looking.Looked.TheVariants as looked

-- Macro uses ----------------------------------------------------------------------------

abbrev pub UsedAs : Used → Counts → Result Datum ExpandErr → Counts → Type 0
UsedAs u before (Ok d) after = u ≡ gives after (form d)
UsedAs u before (Err fault.Memory) after = Unit {0}
UsedAs u before (Err e) after = (u ≡ fails e) × (after ≡ before)

-- the result of a use, where so many data may still be made
abbrev pub counted_within : ℕ → Counts → Form → Used
counted_within left n d = if nat_le (form_size d) left then (if nat_le (form_nesting d) 1000 then gives (counted n d) d else fails (fault.Limit limit.Depth)) else fails (fault.Limit limit.Filled)

module _ (ks : List Macro) (s : List Marked) where
  -- Values ------------------------------------------------------------------------------

  -- by expressions that stand there instead, one after another
  pub data Settles : Counts → Form → Counts → Form → Type 0 where
    here : {n : Counts} {d : Form} → Settles n d n d
    onto : {n m k : Counts} {d e f : Form} → settled ks s n d ≡ again m e → Settles m e k f → Settles n d k f

  abbrev pub is_other : bodies.Settled → Bool
  is_other (again m e) = false
  is_other (stuck f) = false
  is_other (is_core key.Lambda) = false
  is_other _ = true

  pub record IsLambda (n : Counts) (d : Form) (after : Counts) (at : Place) (ds : List Datum) : Type 0 where
    pub last : Form
    pub path : Settles n d after last
    pub is : settled ks s after last ≡ is_core key.Lambda
    pub place : form_place last ≡ at
    pub parts : parts_of last ≡ data_of ds

  pub record IsOther (n : Counts) (d : Form) (after : Counts) (last : Form) : Type 0 where
    pub path : Settles n d after last
    pub is : is_other (settled ks s after last) ≡ true

  pub record IsStuck (n : Counts) (d : Form) (after : Counts) (last : Form) (e : ExpandErr) : Type 0 where
    pub path : Settles n d after last
    pub is : settled ks s after last ≡ stuck e

  -- no Form: that is no refusal of a macro's use
  abbrev pub of_a_use : ExpandErr → Bool
  of_a_use (fault.Form at) = false
  of_a_use e = true

  -- a use of a macro that isn't expanded is left as it stands
  pub record IsLeft (n : Counts) (d : Form) (after : Counts) (last : Form) (e : ExpandErr) : Type 0 where
    pub stuck : IsStuck n d after last e
    pub of_use : of_a_use e ≡ true

  -- a value that isn't by the grammar
  pub record IsNoValue (n : Counts) (d : Form) (after : Counts) (at : Place) : Type 0 where
    pub last : Form
    pub stuck : IsStuck n d after last (fault.Form at)

  -- Form is the only refusal that isn't left to the form in which it is found
  abbrev pub SettlesAs : Counts → Form → Result Settled ExpandErr → Counts → Type 0
  SettlesAs n d (Ok (value.Lambda at ds)) after = IsLambda n d after at ds
  SettlesAs n d (Ok (value.Other o)) after = IsOther n d after (open_of o)
  SettlesAs n d (Ok (value.Stuck e f)) after = IsLeft n d after (form e) f
  SettlesAs n d (Err (fault.Form at)) after = IsNoValue n d after at
  SettlesAs n d (Err fault.Memory) after = Unit {0}
  SettlesAs n d (Err e) after = ⊥

  -- Bodies ------------------------------------------------------------------------------

  -- by forms that stand first instead, one after another
  pub data Looks : Counts → Forms → Counts → Forms → Type 0 where
    here : {n : Counts} {ds : Forms} → Looks n ds n ds
    onto : {n m k : Counts} {d : Form} {ds es fs : Forms} → look ks s n d ds ≡ instead m es → Looks m es k fs → Looks n (next d ds) k fs

  -- these forms are reached, and this stands first in them
  pub record Finds (n : Counts) (ds : Forms) (after : Counts) (d : Form) (es : Forms) (l : Look) : Type 0 where
    pub path : Looks n ds after (next d es)
    pub is : look ks s after d es ≡ l

  pub record Shows (n : Counts) (ds : Forms) (after : Counts) (l : Look) : Type 0 where
    pub first : Form
    pub others : Forms
    pub finds : Finds n ds after first others l

  pub record IsKept (n : Counts) (ds : Forms) (after : Counts) (d : Form) (es : Forms) (e : ExpandErr) : Type 0 where
    pub finds : Finds n ds after d es (breach e)
    pub of_use : of_a_use e ≡ true

  abbrev pub LooksAs : Counts → Forms → Result Looked ExpandErr → Counts → Type 0
  LooksAs n ds (Ok (looked.Instead es)) after = Looks n ds after (data_of es)
  LooksAs n ds (Ok (looked.First (first.Stuck d es e))) after = IsKept n ds after (form d) (data_of es) e
  LooksAs n ds (Ok (looked.First (first.Variable at x o es))) after = Shows n ds after (of_variable at x (open_of o) (data_of es))
  LooksAs n ds (Ok (looked.First (first.Function at f es))) after = Shows n ds after (of_function at (function_of f) (data_of es))
  LooksAs n ds (Ok (looked.First (first.Expression d es))) after = Finds n ds after (form d) (data_of es) (expression (form d) (data_of es))
  LooksAs n ds (Err (fault.Form at)) after = Shows n ds after (breach (fault.Form at))
  LooksAs n ds (Err fault.Memory) after = Unit {0}
  LooksAs n ds (Err e) after = ⊥
