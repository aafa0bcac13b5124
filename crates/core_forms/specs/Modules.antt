-- The forms of a module: macros, definitions and expressions at top level.
use Rattle.std.specs.Prelude.{◌≡◌, ◌⊎◌, ℕ, ◌-◌, Bool, true, false, not, if◌then◌else◌, ◌&&◌, ◌||◌, List, [], ◌∷◌, ◌++◌, codes, Option, Some, None}
use Rattle.scheme_data.specs.declared.datum.Place.{Place}
use Rattle.scheme_data.specs.Forms.{Form, Forms, listed, end, next, form_says, form_place}
use Rattle.syntax_rules.specs.Trees.{Macro}
use Rattle.syntax_rules.specs.Macros.{macro_of}
use Rattle.core_forms.specs.Scope.{Meaning, macro, special, head_meaning, parts_of, with_macro}
use Rattle.core_forms.specs.Mid.{Tree, Mid, raw, finished, tree}
use Rattle.core_forms.specs.Names.{binder_of}
use Rattle.core_forms.specs.Table.{core}
use Rattle.core_forms.specs.Bodies.{Used, gives, fails, used, Definition, value, procedure, definition_of}
use Rattle.core_forms.specs.Rewriting.{Progress, still, moves, stops, step}
use Rattle.core_forms.specs.declared.core_form.Binder.{Binder}
use Rattle.core_forms.specs.declared.core_form.CoreTop.{CoreTop}
use Rattle.core_forms.specs.declared.core_form.CoreTop.TheVariants as top
use Rattle.core_forms.specs.declared.counting.Counts.{Counts}
use Rattle.core_forms.specs.declared.words.Keyword.TheVariants as key
use Rattle.core_forms.specs.declared.error.ExpandErr.{ExpandErr}
use Rattle.core_forms.specs.declared.error.ExpandErr.TheVariants as fault

-- what a definition makes
pub data Sort : Type 0 where
  usual : Sort
  inline : Sort

-- a form at top level
pub data Top : Type 0 where
  -- nothing is decided of it
  form : Form → Top
  -- a `define-syntax`
  syntax : Place → List ℕ → Top
  -- a definition, whose value stands in so many lists
  defined : Sort → Binder → ℕ → Mid → Top
  evaluated : Mid → Top

-- the same where only core forms stand
pub data TopTree : Type 0 where
  Syntax : Place → List ℕ → TopTree
  Defines : Sort → Binder → Tree → TopTree
  Evaluates : Tree → TopTree

abbrev pub top_tree : CoreTop → TopTree
top_tree (top.Define x e) = Defines usual x (tree e)
top_tree (top.DefineInline x e) = Defines inline x (tree e)
top_tree (top.Syntax at x) = Syntax at x
top_tree (top.Form e) = Evaluates (tree e)

-- Macros that are written ---------------------------------------------------------------

-- the macros and the top-level forms found so far, or the first place with bad rules
pub data Scanned : Type 0 where
  scanned : List Macro → List Top → Scanned
  bad : Place → Scanned

abbrev pub with_top : Top → Scanned → Scanned
with_top t (scanned ks ts) = scanned ks (ts ++ t ∷ [])
with_top t (bad at) = bad at

abbrev pub with_rules : Place → Option Macro → Scanned → Scanned
with_rules at m (bad p) = bad p
with_rules at None (scanned ks ts) = bad at
with_rules at (Some k) (scanned ks ts) = scanned (with_macro ks k) (ts ++ syntax at k.name ∷ [])

-- All macros that are written at top level are known in all forms, and so those in a `begin` there, unless a macro is called `begin`.
abbrev mutual
  pub scan : Bool → Form → Scanned → Scanned
  scan begins (listed at (next word ds)) s =
      if form_says word (codes "define-syntax") then with_rules at (macro_of (listed at (next word ds))) s
      else (if form_says word (codes "begin") && begins then scan_all begins ds s else with_top (form (listed at (next word ds))) s)
  scan begins d s = with_top (form d) s

  pub scan_all : Bool → Forms → Scanned → Scanned
  scan_all begins end s = s
  scan_all begins (next d ds) s = scan_all begins ds (scan begins d s)

abbrev pub declares : List ℕ → Form → Bool
declares x (listed at (next word (next name ds))) = form_says word (codes "define-syntax") && form_says name x
declares x _ = false

abbrev pub declare : List ℕ → Forms → Bool
declare x end = false
declare x (next d ds) = declares x d || declare x ds

abbrev pub scan_module : Forms → Scanned
scan_module ds = scan_all (not (declare (codes "begin") ds)) ds (scanned [] [])

-- Top-level forms -----------------------------------------------------------------------

-- the macros known so far are part of what is threaded through the forms
pub data TopProgress (A : Type 0) : Type 0 where
  rests : TopProgress A
  goes : List Macro → Counts → A → TopProgress A
  ends : ExpandErr → TopProgress A

abbrev pub tops_of : Forms → List Top
tops_of end = []
tops_of (next d ds) = form d ∷ tops_of ds

abbrev pub used_top : List Macro → Used → TopProgress (List Top)
used_top ks (gives n d) = goes ks n (form d ∷ [])
used_top ks (fails f) = ends f

abbrev pub syntax_top : List Macro → Counts → Place → Option Macro → TopProgress (List Top)
syntax_top ks n at None = ends (fault.BadRules at)
syntax_top ks n at (Some k) = goes (with_macro ks k) n (syntax at k.name ∷ [])

-- the name of a definition at top level has no mark, and the place of the definition
abbrev pub top_name : Place → Binder → Binder
top_name at x = record { at = at; name = x.name; mark = 0; ty = x.ty }

abbrev pub define_top : List Macro → Counts → Place → Option Definition → TopProgress (List Top)
define_top ks n at None = ends (fault.Form at)
define_top ks n at (Some (value x word name e)) = goes ks n (defined usual (top_name at x) 1 (raw e) ∷ [])
define_top ks n at (Some (procedure x parts)) = goes ks n (defined usual (top_name at x) 0 (raw (core at (codes "lambda") parts)) ∷ [])

abbrev pub inline_top : List Macro → Counts → Place → Option Binder → Forms → TopProgress (List Top)
inline_top ks n at None parts = ends (fault.Form at)
inline_top ks n at (Some x) parts = goes ks n (defined inline (top_name at x) 0 (raw (core at (codes "lambda") parts)) ∷ [])

abbrev pub inline_of : List Macro → Counts → Form → TopProgress (List Top)
inline_of ks n (listed at (next word (next (listed p (next f xs)) (next b bs)))) = inline_top ks n at (binder_of true f) (next (listed p xs) (next b bs))
inline_of ks n d = ends (fault.Form (form_place d))

abbrev pub top_as : Meaning → List Macro → Counts → Form → TopProgress (List Top)
top_as (macro k) ks n d = used_top ks (used k n d)
top_as (special key.Begin) ks n d = goes ks n (tops_of (parts_of d))
top_as (special key.DefineSyntax) ks n d = syntax_top ks n (form_place d) (macro_of d)
top_as (special key.Define) ks n d = define_top ks n (form_place d) (definition_of d)
top_as (special key.DefineInline) ks n d = inline_of ks n d
top_as _ ks n d = goes ks n (evaluated (raw d) ∷ [])

abbrev pub in_definition : List Macro → Sort → Binder → ℕ → Progress Mid → TopProgress (List Top)
in_definition ks sort x w still = rests
in_definition ks sort x w (moves n m) = goes ks n (defined sort x w m ∷ [])
in_definition ks sort x w (stops f) = ends f

abbrev pub in_expression : List Macro → Progress Mid → TopProgress (List Top)
in_expression ks still = rests
in_expression ks (moves n m) = goes ks n (evaluated m ∷ [])
in_expression ks (stops f) = ends f

abbrev pub top_step : List Macro → Counts → Top → TopProgress (List Top)
top_step ks n (form d) = top_as (head_meaning ks [] d) ks n d
top_step ks n (syntax at x) = rests
top_step ks n (defined sort x w m) = in_definition ks sort x w (step ks (1000 - w) [] n m)
top_step ks n (evaluated m) = in_expression ks (step ks 1000 [] n m)

abbrev pub first_top : Top → List Top → TopProgress (List Top) → TopProgress (List Top) → TopProgress (List Top)
first_top t ts (goes ks n us) later = goes ks n (us ++ ts)
first_top t ts (ends f) later = ends f
first_top t ts rests (goes ks n us) = goes ks n (t ∷ us)
first_top t ts rests (ends f) = ends f
first_top t ts rests rests = rests

-- the first form in which something is left
abbrev pub tops_step : List Macro → Counts → List Top → TopProgress (List Top)
tops_step ks n [] = rests
tops_step ks n (t ∷ ts) = first_top t ts (top_step ks n t) (tops_step ks n ts)

-- Whole modules -------------------------------------------------------------------------

pub data TopsReach : List Macro → Counts → List Top → List Macro → Counts → List Top → Type 0 where
  here : {ks : List Macro} {n : Counts} {ts : List Top} → TopsReach ks n ts ks n ts
  onto : {ks js is : List Macro} {n m k : Counts} {ts us vs : List Top} → tops_step ks n ts ≡ goes js m us → TopsReach js m us is k vs → TopsReach ks n ts is k vs

abbrev pub all_of : Option TopTree → Option (List TopTree) → Option (List TopTree)
all_of None ts = None
all_of (Some t) None = None
all_of (Some t) (Some ts) = Some (t ∷ ts)

abbrev pub tree_top : (Tree → TopTree) → Option Tree → Option TopTree
tree_top f None = None
tree_top f (Some t) = Some (f t)

abbrev pub finished_top : Top → Option TopTree
finished_top (form d) = None
finished_top (syntax at x) = Some (Syntax at x)
finished_top (defined sort x w m) = tree_top (Defines sort x) (finished m)
finished_top (evaluated m) = tree_top Evaluates (finished m)

abbrev pub finished_tops : List Top → Option (List TopTree)
finished_tops [] = Some []
finished_tops (t ∷ ts) = all_of (finished_top t) (finished_tops ts)

abbrev pub start : Counts
start = record { expansions = 0; filled = 0; names = 0 }

-- the forms of a module are replaced, place by place, until only these core forms stand
pub record Expands (ds : Forms) (trees : List TopTree) : Type 0 where
  pub macros : List Macro
  pub tops : List Top
  pub known : List Macro
  pub counts : Counts
  pub last : List Top
  pub scans : scan_module ds ≡ scanned macros tops
  pub reaches : TopsReach macros start tops known counts last
  pub shows : finished_tops last ≡ Some trees

-- the first breach of the rewriting
pub record StopsWith (ds : Forms) (f : ExpandErr) : Type 0 where
  pub macros : List Macro
  pub tops : List Top
  pub known : List Macro
  pub counts : Counts
  pub last : List Top
  pub scans : scan_module ds ≡ scanned macros tops
  pub reaches : TopsReach macros start tops known counts last
  pub stop : tops_step known counts last ≡ ends f

-- bad rules come before any expansion
abbrev pub IsRefused : Forms → ExpandErr → Type 0
IsRefused ds f = ((at : Place) × (scan_module ds ≡ bad at) × (f ≡ fault.BadRules at)) ⊎ StopsWith ds f
