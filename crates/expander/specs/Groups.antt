-- Neighbouring definitions of functions, as the code keeps them, and what their walk answers.
use Rattle.std.specs.Prelude.{◌≡◌, ℕ, ◌≤◌, List, length, map, Result, Ok, Err}
use Rattle.scheme_data.specs.declared.datum.Place.{Place}
use Rattle.scheme_data.specs.Forms.{Forms, form, next}
use Rattle.syntax_rules.specs.Trees.{Macro}
use Rattle.core_forms.specs.Scope.{Marked, all_marked, entered}
use Rattle.core_forms.specs.Mid as mid
use Rattle.core_forms.specs.Mid.{Mid, body, group}
use Rattle.core_forms.specs.Table.{becomes}
use Rattle.core_forms.specs.Bodies.{Look, of_variable, of_function, binders_in, letrec_at, group_turn}
use Rattle.core_forms.specs.Rewriting.{moved, step, Reaches, Halts}
use Rattle.core_forms.specs.Code.{data_of}
use Rattle.core_forms.specs.Working.{open_of, function_of, work_mid}
use Rattle.core_forms.specs.declared.core_form.Binder.{Binder}
use Rattle.core_forms.specs.declared.counting.Counts.{Counts}
use Rattle.core_forms.specs.declared.error.ExpandErr.{ExpandErr}
use Rattle.core_forms.specs.declared.work.Work.{Work}
use Rattle.expansion_steps.specs.declared.looking.First.{First}
use Rattle.expansion_steps.specs.declared.looking.First.TheVariants as first
use Rattle.expander.specs.declared.grouping.Group.{Group}
use Rattle.expander.specs.declared.grouping.Neighbour.{Neighbour}
use Rattle.expander.specs.declared.grouping.Neighbour.TheVariants as neighbour

abbrev pub functions_of : Group → List mid.Function
functions_of g = map function_of g.functions

abbrev pub binders_of : Group → List Binder
binders_of g = binders_in (functions_of g)

-- the functions so far, and the forms that follow
abbrev pub group_mid : Group → Forms → Mid
group_mid g ds = group g.at (functions_of g) ds

-- a group after some steps: each name of it is entered in the scope
pub record Stays (before after : Group) (old new : List Marked) : Type 0 where
  pub place : after.at ≡ before.at
  pub named : after.names ≡ all_marked (binders_of after)
  pub some : 1 ≤ length (functions_of before) → 1 ≤ length (functions_of after)
  pub inner : (s : List Marked) → old ≡ entered (binders_of before) s → new ≡ entered (binders_of after) s

-- a group ends in front of these forms
pub record Ends (last : Forms) (l : Look) (ds : Forms) : Type 0 where
  pub are : last ≡ ds
  pub ends : (n : Counts) (at : Place) (fs : List mid.Function) → group_turn n at fs last l ≡ becomes n (letrec_at at fs (body at last))

-- this is what was found first in these forms
abbrev pub IsFirst : First → Forms → Look → Type 0
IsFirst (first.Stuck d es e) last l = Ends last l (next (form d) (data_of es))
IsFirst (first.Variable at x o es) last l = l ≡ of_variable at x (open_of o) (data_of es)
IsFirst (first.Function at f es) last l = l ≡ of_function at (function_of f) (data_of es)
IsFirst (first.Expression d es) last l = Ends last l (next (form d) (data_of es))

abbrev pub neighbour_mid : Group → Neighbour → Mid
neighbour_mid g (neighbour.More ds) = group_mid g (data_of ds)
neighbour_mid g (neighbour.Body w) = letrec_at g.at (functions_of g) (work_mid w)

-- the functions are known, and this stands behind them
pub record Closed (ks : List Macro) (s : List Marked) (n : Counts) (m : Mid) (g : Group) (behind : Mid) (after : Counts) : Type 0 where
  pub last : Mid
  pub path : (room : ℕ) → Reaches Mid (step ks room s) n m after last
  pub is : (room : ℕ) → step ks room s after last ≡ moved room (becomes after (letrec_at g.at (functions_of g) behind))

abbrev pub NeighbourAs : List Macro → List Marked → Counts → Mid → Group → Neighbour → Counts → Type 0
NeighbourAs ks s n m g (neighbour.More ds) after = (room : ℕ) → Reaches Mid (step ks room s) n m after (group_mid g (data_of ds))
NeighbourAs ks s n m g (neighbour.Body w) after = Closed ks s n m g (work_mid w) after

abbrev pub GroupedAs : List Macro → List Marked → Counts → Mid → Group → Result Work ExpandErr → Counts → Type 0
GroupedAs ks s n m g (Ok w) after = Closed ks s n m g (work_mid w) after
GroupedAs ks s n m g (Err f) after = (room : ℕ) → Halts Mid (step ks room s) n m f
