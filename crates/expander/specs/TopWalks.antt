-- What the steps of a module's forms answer.
use Rattle.std.specs.Prelude.{◌≡◌, true, List, [], ◌∷◌, ◌++◌, map, codes, Option, Some, None, Result, Ok, Err}
use Rattle.scheme_data.specs.declared.datum.Place.{Place}
use Rattle.scheme_data.specs.Forms.{Forms, listed, next}
use Rattle.syntax_rules.specs.Trees.{Macro}
use Rattle.core_forms.specs.Mid.{raw}
use Rattle.core_forms.specs.Names.{binder_of}
use Rattle.core_forms.specs.Table.{core}
use Rattle.core_forms.specs.Modules.{Top, TopTree, top_tree, inline, defined, top_name, inline_top, TopProgress, rests, goes, ends, top_step, tops_step, TopsReach, finished_top, finished_tops}
use Rattle.core_forms.specs.Code.{data_of, Refusing, IsMemory}
use Rattle.core_forms.specs.declared.core_form.Core.{Core}
use Rattle.core_forms.specs.declared.core_form.CoreTop.{CoreTop}
use Rattle.core_forms.specs.declared.counting.Counts.{Counts}
use Rattle.core_forms.specs.declared.error.ExpandErr.{ExpandErr}
use Rattle.core_forms.specs.declared.error.ExpandErr.TheVariants as fault
use Rattle.expander.specs.declared.module.Inline.{Inline}
use Rattle.expander.specs.Answers.{core_trees}

-- Whole modules -------------------------------------------------------------------------

-- in the end these core forms stand there
pub record TopsBecome (ks : List Macro) (n : Counts) (ts : List Top) (trees : List TopTree) : Type 0 where
  pub known : List Macro
  pub counts : Counts
  pub last : List Top
  pub reaches : TopsReach ks n ts known counts last
  pub shows : finished_tops last ≡ Some trees

-- at this fault the rewriting stops
pub record TopsStop (ks : List Macro) (n : Counts) (ts : List Top) (f : ExpandErr) : Type 0 where
  pub known : List Macro
  pub counts : Counts
  pub last : List Top
  pub reaches : TopsReach ks n ts known counts last
  pub stop : tops_step known counts last ≡ ends f

abbrev pub TopsWalked : List Macro → Counts → List Top → Result Core ExpandErr → Type 0
TopsWalked ks n ts (Ok c) = TopsBecome ks n ts (core_trees c)
TopsWalked ks n ts (Err f) = Refusing (TopsStop ks n ts) f

-- One form ------------------------------------------------------------------------------

-- in the end this core form stands in its place
pub record TopBecomes (ks : List Macro) (n : Counts) (t : Top) (u : TopTree) (after : Counts) : Type 0 where
  pub last : Top
  pub reaches : (ts : List Top) → TopsReach ks n (t ∷ ts) ks after (last ∷ ts)
  pub shows : finished_top last ≡ Some u

pub record TopStops (ks : List Macro) (n : Counts) (t : Top) (f : ExpandErr) : Type 0 where
  pub counts : Counts
  pub last : Top
  pub reaches : (ts : List Top) → TopsReach ks n (t ∷ ts) ks counts (last ∷ ts)
  pub stop : top_step ks counts last ≡ ends f

abbrev pub TopWalked : List Macro → Counts → Top → Result CoreTop ExpandErr → Counts → Type 0
TopWalked ks n t (Ok c) after = TopBecomes ks n t (top_tree c) after
TopWalked ks n t (Err f) after = Refusing (TopStops ks n t) f

-- whatever form has this step
abbrev pub StepWalked : List Macro → Counts → TopProgress (List Top) → Result CoreTop ExpandErr → Counts → Type 0
StepWalked ks n p r after = (t : Top) → top_step ks n t ≡ p → TopWalked ks n t r after

-- One form among others -----------------------------------------------------------------

-- in front of these
abbrev pub over : TopProgress (List Top) → List Top → TopProgress (List Top)
over rests ts = rests
over (goes ks n us) ts = goes ks n (us ++ ts)
over (ends f) ts = ends f

-- what a step puts in front of others
abbrev pub StepTaken : TopProgress (List Top) → List Top → Result (Unit {0}) ExpandErr → List Macro → Counts → List Top → Type 0
StepTaken p ts (Ok a) known after new = over p ts ≡ goes known after new
StepTaken p ts (Err f) known after new = Refusing (λ f. p ≡ ends f) f

-- what was made is added at the end
abbrev pub AddsAs : Result CoreTop ExpandErr → List CoreTop → Result (Unit {0}) ExpandErr → List CoreTop → Type 0
AddsAs (Ok c) old (Ok a) new = new ≡ old ++ c ∷ []
AddsAs (Ok c) old (Err f) new = IsMemory f
AddsAs (Err e) old (Ok a) new = ⊥
AddsAs (Err e) old (Err f) new = f ≡ e

-- these core forms stand in front of those that are left
pub record SoFar (ks : List Macro) (n : Counts) (ts : List Top) (known : List Macro) (after : Counts) (done : List CoreTop) (left : List Top) : Type 0 where
  pub front : List Top
  pub reaches : TopsReach ks n ts known after (front ++ left)
  pub shows : finished_tops front ≡ Some (map top_tree done)

abbrev pub Further : List Macro → Counts → List Top → Result (Unit {0}) ExpandErr → List Macro → Counts → List CoreTop → List Top → Type 0
Further ks n ts (Ok a) known after done left = SoFar ks n ts known after done left
Further ks n ts (Err f) known after done left = Refusing (TopsStop ks n ts) f

-- from what was done before, further
abbrev pub Advances : List Macro → Counts → List CoreTop → List Top → Result (Unit {0}) ExpandErr → List Macro → Counts → List CoreTop → List Top → Type 0
Advances js m done left r known after new rest =
    (ks : List Macro) (n : Counts) (ts : List Top) → SoFar ks n ts js m done left → Further ks n ts r known after new rest

-- Inlines -------------------------------------------------------------------------------

-- what the forms behind the word of a `define-inline` at a place come to
abbrev pub inline_parts : List Macro → Counts → Place → Forms → TopProgress (List Top)
inline_parts ks n at (next (listed p (next f xs)) (next b bs)) = inline_top ks n at (binder_of true f) (next (listed p xs) (next b bs))
inline_parts ks n at ds = ends (fault.Form at)

abbrev pub inlined : List Macro → Counts → Place → Option Inline → TopProgress (List Top)
inlined ks n at None = ends (fault.Form at)
inlined ks n at (Some i) = goes ks n (defined inline (top_name at i.binder) 0 (raw (core at (codes "lambda") (data_of i.forms))) ∷ [])

abbrev pub InlineAs : Place → Forms → Option Inline → Type 0
InlineAs at ds i = (ks : List Macro) (n : Counts) → inline_parts ks n at ds ≡ inlined ks n at i
