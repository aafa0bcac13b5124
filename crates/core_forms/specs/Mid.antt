-- Core forms as plain trees, and a form while it is being expanded.
use Rattle.std.specs.Prelude.{ℕ, ◌+◌, max, List, [], ◌∷◌, Option, Some, None}
use Rattle.scheme_data.specs.declared.datum.Place.{Place}
use Rattle.scheme_data.specs.Forms.{Form, Forms, form, form_nesting}
use Rattle.core_forms.specs.declared.core_form.Binder.{Binder}
use Rattle.core_forms.specs.declared.core_form.CoreExpr.{CoreExpr, fold-CoreExpr}
use Rattle.core_forms.specs.declared.core_form.CoreExpr.TheOpen.{CoreExpr-F}

-- the kind of a core form, with what stands in it besides its parts
pub data Head : Type 0 where
  constant : Form → Head
  quoted : Form → Head
  named : List ℕ → ℕ → Head
  -- the primitive `eqv?`, whatever its name means
  eqv : Head
  -- its part is the body
  function : List Binder → Head
  branch : Head
  assigned : List ℕ → ℕ → Head
  sequence : Head
  -- the parts of a `let` or `letrec` are its values and then its body
  binding : List Binder → Head
  recursive : List Binder → Head
  exit : Binder → Head
  -- the parts are the form that is protected and then the others
  protected : Head
  -- the parts are the operator and the arguments
  call : Head

-- Core forms ----------------------------------------------------------------------------

mutual
  pub data Tree : Type 0 where
    made : Place → Head → Trees → Tree

  pub data Trees : Type 0 where
    leaf : Trees
    more : Tree → Trees → Trees

abbrev pub trees_then : List Tree → Trees → Trees
trees_then [] us = us
trees_then (t ∷ ts) us = more t (trees_then ts us)

abbrev pub layer : CoreExpr-F Tree → Tree
layer (CoreExpr-F.Constant at d) = made at (constant (form d)) leaf
layer (CoreExpr-F.Quote at d) = made at (quoted (form d)) leaf
layer (CoreExpr-F.Name at x m) = made at (named x m) leaf
layer (CoreExpr-F.PrimEqv at) = made at eqv leaf
layer (CoreExpr-F.Lambda at xs b) = made at (function xs) (more b leaf)
layer (CoreExpr-F.If at a b c) = made at branch (more a (more b (more c leaf)))
layer (CoreExpr-F.OneArmed at a b) = made at branch (more a (more b leaf))
layer (CoreExpr-F.Set at x m e) = made at (assigned x m) (more e leaf)
layer (CoreExpr-F.Begin at es) = made at sequence (trees_then es leaf)
layer (CoreExpr-F.Let at xs es b) = made at (binding xs) (trees_then es (more b leaf))
layer (CoreExpr-F.Letrec at xs es b) = made at (recursive xs) (trees_then es (more b leaf))
layer (CoreExpr-F.BindExit at x b) = made at (exit x) (more b leaf)
layer (CoreExpr-F.UnwindProtect at e es) = made at protected (more e (trees_then es leaf))
layer (CoreExpr-F.Call at e es) = made at call (more e (trees_then es leaf))

abbrev pub tree : CoreExpr → Tree
tree c = fold-CoreExpr Tree layer c

-- Forms on the way ----------------------------------------------------------------------

-- a definition of a function in a body: the name, and its `lambda` form
pub record Function : Type 0 where
  pub binder : Binder
  pub value : Form

mutual
  pub data Mid : Type 0 where
    -- a form of which nothing is decided
    raw : Form → Mid
    -- the same at a name of a `letrec`, where it has to be a `lambda` form
    lambda_form : Place → Form → Mid
    -- the forms of a body
    body : Place → Forms → Mid
    -- neighbouring definitions of functions, from this place on, and the forms that follow
    group : Place → List Function → Forms → Mid
    -- a definition of a variable that waits until the functions in front of it are expanded, and the forms that follow
    variable : Place → Binder → Form → Forms → Mid
    -- what is refused here once its turn comes
    refused : Place → Mid
    -- a core form
    node : Place → Head → Parts → Mid

  pub data Parts : Type 0 where
    none : Parts
    -- a part that stands in so many lists of the core form and sees these names, and the other parts
    part : ℕ → List Binder → Mid → Parts → Parts
    -- the forms of a body that are left
    rest : Place → Forms → Parts

-- how deep lists nest in what is written of the core form so far
abbrev pub own_nesting : Head → ℕ
own_nesting (constant d) = form_nesting d
own_nesting (quoted d) = 1 + form_nesting d
own_nesting (named x m) = 0
own_nesting eqv = 0
own_nesting (function xs) = 2
own_nesting branch = 0
own_nesting (assigned x m) = 0
own_nesting sequence = 0
own_nesting (binding xs) = 2
own_nesting (recursive xs) = 2
own_nesting (exit x) = 2
own_nesting protected = 0
own_nesting call = 0

abbrev mutual
  pub mid_nesting : Mid → ℕ
  mid_nesting (node at h ps) = max (own_nesting h) (parts_nesting ps)
  mid_nesting _ = 0

  pub parts_nesting : Parts → ℕ
  parts_nesting none = 0
  parts_nesting (part w xs m ps) = max (w + mid_nesting m) (parts_nesting ps)
  parts_nesting (rest at ds) = 0

abbrev pub made_of : Place → Head → Option Trees → Option Tree
made_of at h None = None
made_of at h (Some ts) = Some (made at h ts)

abbrev pub more_of : Option Tree → Option Trees → Option Trees
more_of None ts = None
more_of (Some t) None = None
more_of (Some t) (Some ts) = Some (more t ts)

-- the core form, where nothing is left to expand
abbrev mutual
  pub finished : Mid → Option Tree
  finished (node at h ps) = made_of at h (all_finished ps)
  finished _ = None

  pub all_finished : Parts → Option Trees
  all_finished none = Some leaf
  all_finished (part w xs m ps) = more_of (finished m) (all_finished ps)
  all_finished (rest at ds) = None
