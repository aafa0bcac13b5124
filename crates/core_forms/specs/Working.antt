-- What the code's forms on the way stand for, and what its steps answer.
use Rattle.std.specs.Prelude.{◌≡◌, ℕ, true, false, List, [], ◌∷◌, codes, Option, Some, None, Result, Ok, Err}
use Rattle.scheme_data.specs.declared.datum.Place.{Place}
use Rattle.scheme_data.specs.declared.datum.Datum.{Datum}
use Rattle.scheme_data.specs.Forms.{truth, Form, Forms, atom, listed, end, next, form}
use Rattle.core_forms.specs.Mid.{Head, constant, quoted, function, branch, assigned, sequence, binding, recursive, exit, protected, call, Tree, leaf, trees_then, tree, Mid, raw, lambda_form, body, variable, refused, node, Parts, none, part, mid_nesting, finished}
use Rattle.core_forms.specs.Mid as mid
use Rattle.core_forms.specs.Names.{are_pairs, firsts, seconds}
use Rattle.core_forms.specs.Table.{core, core_if, core_let, Row, means, wrong, as_it_is, derived, raws, Turn, becomes, refuses, core_turn}
use Rattle.core_forms.specs.Code.{data_of, Refusing, spelling}
use Rattle.core_forms.specs.declared.core_form.Binder.{Binder}
use Rattle.core_forms.specs.declared.core_form.CoreExpr.{CoreExpr}
use Rattle.core_forms.specs.declared.counting.Counts.{Counts}
use Rattle.core_forms.specs.declared.words.Keyword.{Keyword}
use Rattle.core_forms.specs.declared.error.ExpandErr.{ExpandErr}
use Rattle.core_forms.specs.declared.error.ExpandErr.TheVariants as fault
use Rattle.core_forms.specs.declared.binders.Bindings.{Bindings}
use Rattle.core_forms.specs.declared.work.Open.{Open}
use Rattle.core_forms.specs.declared.work.Open.TheVariants as open_form
use Rattle.core_forms.specs.declared.work.Function.{Function}
use Rattle.core_forms.specs.declared.work.Work.{Work}
use Rattle.core_forms.specs.declared.work.Work.TheVariants as work
use Rattle.core_forms.specs.declared.work.Lists.{Lists}
use Rattle.core_forms.specs.declared.work.Lists.TheVariants as lists
use Rattle.core_forms.specs.declared.work.Part.{Part}
use Rattle.core_forms.specs.declared.work.Kind.{Kind}
use Rattle.core_forms.specs.declared.work.Kind.TheVariants as kind
use Rattle.core_forms.specs.declared.work.Node.{Node}
use Rattle.core_forms.specs.declared.work.Made.{Made}
use Rattle.core_forms.specs.declared.work.Made.TheVariants as made_form
use Rattle.core_forms.specs.declared.work.Turned.{Turned}
use Rattle.core_forms.specs.declared.work.Turned.TheVariants as turned

-- Forms ---------------------------------------------------------------------------------

abbrev pub open_of : Open → Form
open_of (open_form.Datum d) = form d
open_of (open_form.Row at k ds) = core at (spelling k) (data_of ds)
open_of (open_form.LetStar at xs bs) = core at (codes "let*") (next (listed at (data_of xs)) (data_of bs))
open_of (open_form.LetFirst at x xs bs) = core at (codes "let") (next (listed at (next (form x) end)) (next (core at (codes "let*") (next (listed at (data_of xs)) (data_of bs))) end))
open_of (open_form.Choice at a b k ds) = core_if at (form a) (form b) (core at (spelling k) (data_of ds))
open_of (open_form.Both at a ds) = core_if at (form a) (core at (codes "and") (data_of ds)) (atom at (truth false))
open_of (open_form.Kept at x b k ds) = core_let at (form x.binder) (form x.value) (core_if at (form x.name) (form b) (core at (spelling k) (data_of ds)))

abbrev pub function_of : Function → mid.Function
function_of f = record { binder = f.binder; value = core f.at (codes "lambda") (data_of f.forms) }

abbrev pub work_mid : Work → Mid
work_mid (work.Raw o) = raw (open_of o)
work_mid (work.LambdaForm at d) = lambda_form at (form d)
work_mid (work.Body at ds) = body at (data_of ds)
work_mid (work.LetStar at xs bs) = body at (next (open_of (open_form.LetStar at xs bs)) end)
work_mid (work.Choice at a b k ds) = body at (next (open_of (open_form.Choice at a b k ds)) end)
work_mid (work.Variable at x o ds) = variable at x (open_of o) (data_of ds)
work_mid (work.Refused at) = refused at

abbrev pub lists_of : Lists → ℕ
lists_of lists.One = 1
lists_of lists.Three = 3

abbrev pub parts_then : List Binder → List Part → Parts → Parts
parts_then xs [] ps = ps
parts_then xs (p ∷ qs) ps = part (lists_of p.lists) xs (work_mid p.work) (parts_then xs qs ps)

abbrev pub kind_head : Kind → Head
kind_head (kind.Lambda xs) = function xs
kind_head kind.If = branch
kind_head (kind.Set x m) = assigned x m
kind_head kind.Begin = sequence
kind_head (kind.Let xs) = binding xs
kind_head (kind.Letrec xs) = recursive xs
kind_head (kind.BindExit x) = exit x
kind_head kind.UnwindProtect = protected
kind_head kind.Call = call

-- the names that its inner parts see
abbrev pub kind_binders : Kind → List Binder
kind_binders (kind.Lambda xs) = xs
kind_binders kind.If = []
kind_binders (kind.Set x m) = []
kind_binders kind.Begin = []
kind_binders (kind.Let xs) = xs
kind_binders (kind.Letrec xs) = xs
kind_binders (kind.BindExit x) = x ∷ []
kind_binders kind.UnwindProtect = []
kind_binders kind.Call = []

abbrev pub node_mid : Node → Mid
node_mid n = node n.at (kind_head n.kind) (parts_then [] n.outer (parts_then (kind_binders n.kind) n.inner none))

-- a core form of this kind whose parts are these forms, one list deep
pub record IsRaws (at : Place) (k : Kind) (ds : List Datum) (n : Node) : Type 0 where
  pub place : n.at ≡ at
  pub kind : n.kind ≡ k
  pub nesting : n.nesting ≡ 1
  pub outer : parts_then [] n.outer none ≡ raws 1 (data_of ds) none
  pub inner : n.inner ≡ []

-- Bindings ------------------------------------------------------------------------------

pub record AreBindings (ds : Forms) (names values : List Datum) : Type 0 where
  pub pairs : are_pairs ds ≡ true
  pub names_are : firsts ds ≡ data_of names
  pub values_are : seconds ds ≡ data_of values

-- the two sides of bindings, where all are
abbrev pub BindingsAs : Forms → Option Bindings → Type 0
BindingsAs ds None = are_pairs ds ≡ false
BindingsAs ds (Some b) = AreBindings ds b.names b.values

-- Steps ---------------------------------------------------------------------------------

pub record IsWrong (r : Row) (at : Place) (before after : Counts) (e : ExpandErr) : Type 0 where
  pub is : r ≡ wrong
  pub there : e ≡ fault.Form at
  pub same : after ≡ before

-- a row of the table means this form; where it is wrong, nothing is counted
abbrev pub MeansAs : Row → Place → Counts → Result Open ExpandErr → Counts → Type 0
MeansAs r at before (Ok o) after = r ≡ means after (open_of o)
MeansAs r at before (Err e) after = Refusing (IsWrong r at before after) e

-- a name
pub record IsLeaf (t : Turn) (c : CoreExpr) (after : Counts) : Type 0 where
  pub mid : Mid
  pub is : t ≡ becomes after mid
  pub shows : finished mid ≡ Some (tree c)
  pub flat : mid_nesting mid ≡ 0

-- a node tells how deep lists nest in it
pub record IsNode (t : Turn) (n : Node) (after : Counts) : Type 0 where
  pub is : t ≡ becomes after (node_mid n)
  pub nests : n.nesting ≡ mid_nesting (node_mid n)

-- a core form stands there
abbrev pub Makes : Turn → Made → Counts → Type 0
Makes t (made_form.Leaf c) after = IsLeaf t c after
Makes t (made_form.Constant at d) after = t ≡ becomes after (node at (constant (form d)) none)
Makes t (made_form.Quoted at d) after = t ≡ becomes after (node at (quoted (form d)) none)
Makes t (made_form.Node n) after = IsNode t n after

abbrev pub MakesAs : Turn → Result Made ExpandErr → Counts → Type 0
MakesAs t (Ok m) after = Makes t m after
MakesAs t (Err e) after = Refusing (λ e. t ≡ refuses e) e

abbrev pub TurnsAs : Turn → Result Turned ExpandErr → Counts → Type 0
TurnsAs t (Ok (turned.Again o)) after = t ≡ becomes after (raw (open_of o))
TurnsAs t (Ok (turned.Core m)) after = Makes t m after
TurnsAs t (Err e) after = Refusing (λ e. t ≡ refuses e) e

-- the forms behind the word of a special form
abbrev pub row_turn : Counts → Place → Keyword → Forms → Row → Turn
row_turn n at k ds (means m d) = becomes m (raw d)
row_turn n at k ds wrong = refuses (fault.Form at)
row_turn n at k ds as_it_is = core_turn n at k ds

abbrev pub parts_turn : Counts → Place → Keyword → Forms → Turn
parts_turn n at k ds = row_turn n at k ds (derived n at k ds)
