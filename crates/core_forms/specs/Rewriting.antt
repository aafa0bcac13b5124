-- The outermost use of a macro, of a derived form or of a definition in the leftmost place is replaced, until only core forms stand.
use Rattle.std.specs.Prelude.{◌≡◌, ℕ, ◌-◌, nat_eq, nat_le, if◌then◌else◌, List, [], Some, Result, Ok, Err}
use Rattle.scheme_data.specs.declared.datum.Place.{Place}
use Rattle.scheme_data.specs.Forms.{Form, Forms, atom, symbol, listed, dotted, vector, end, next, form_place}
use Rattle.scheme_data.specs.TypedNames.{has_type}
use Rattle.syntax_rules.specs.Trees.{Macro}
use Rattle.core_forms.specs.Scope.{Marked, entered, core_mark, parts_of}
use Rattle.core_forms.specs.Mid.{Head, constant, named, eqv, call, Tree, Trees, tree, Mid, raw, lambda_form, body, group, variable, refused, node, Parts, none, part, rest, mid_nesting, finished, all_finished}
use Rattle.core_forms.specs.Table.{Turn, becomes, refuses, raws, core_turn}
use Rattle.core_forms.specs.Bodies.{Settled, again, stuck, is_core, is_plain, settled, Look, instead, expression, look, variable_at, body_turn, group_turn, binders_in}
use Rattle.core_forms.specs.declared.core_form.Binder.{Binder}
use Rattle.core_forms.specs.declared.counting.Counts.{Counts}
use Rattle.core_forms.specs.declared.words.Keyword.TheVariants as key
use Rattle.core_forms.specs.declared.core_form.CoreExpr.{CoreExpr}
use Rattle.core_forms.specs.declared.error.ExpandErr.{ExpandErr}
use Rattle.core_forms.specs.declared.error.ExpandErr.TheVariants as fault
use Rattle.scheme_data.specs.declared.datum.LimitKind.TheVariants as limit

-- what one replacement does
pub data Progress (A : Type 0) : Type 0 where
  -- nothing is left to replace
  still : Progress A
  moves : Counts → A → Progress A
  stops : ExpandErr → Progress A

-- Forms ---------------------------------------------------------------------------------

abbrev pub listed_turn : Counts → Form → Place → Forms → Settled → Turn
listed_turn n d at ds (again m e) = becomes m (raw e)
listed_turn n d at ds (stuck f) = refuses f
listed_turn n d at ds (is_core k) = core_turn n at k (parts_of d)
listed_turn n d at ds is_plain = becomes n (node at call (raws 1 ds none))

abbrev pub name_turn : Counts → Place → List ℕ → ℕ → Turn
name_turn n at x m = if nat_eq m core_mark then becomes n (node at eqv none) else (if has_type x then refuses (fault.Form at) else becomes n (node at (named x m) none))

-- a dotted list is no form, unless it is a use of a macro, which then matches no rule
abbrev pub dotted_turn : Place → Settled → Turn
dotted_turn at (again m e) = becomes m (raw e)
dotted_turn at (stuck f) = refuses f
dotted_turn at _ = refuses (fault.Form at)

abbrev pub raw_turn : List Macro → List Marked → Counts → Form → Turn
raw_turn ks s n (atom at a) = becomes n (node at (constant (atom at a)) none)
raw_turn ks s n (vector at ds) = becomes n (node at (constant (vector at ds)) none)
raw_turn ks s n (symbol at x m) = name_turn n at x m
raw_turn ks s n (listed at end) = refuses (fault.Form at)
raw_turn ks s n (listed at (next d ds)) = listed_turn n (listed at (next d ds)) at (next d ds) (settled ks s n (listed at (next d ds)))
raw_turn ks s n (dotted at ds d) = dotted_turn at (settled ks s n (dotted at ds d))

-- a value of a `letrec` is a `lambda` form when its head is settled
abbrev pub lambda_form_turn : Counts → Place → Form → Settled → Turn
lambda_form_turn n at d (again m e) = becomes m (lambda_form at e)
lambda_form_turn n at d (stuck f) = refuses f
lambda_form_turn n at d (is_core key.Lambda) = core_turn n (form_place d) key.Lambda (parts_of d)
lambda_form_turn n at d _ = refuses (fault.Form at)

abbrev pub turn : List Macro → List Marked → Counts → Mid → Turn
turn ks s n (raw d) = raw_turn ks s n d
turn ks s n (lambda_form at d) = lambda_form_turn n at d (settled ks s n d)
turn ks s n (body at end) = refuses (fault.Form at)
turn ks s n (body at (next d ds)) = body_turn n at (look ks s n d ds)
turn ks s n (group at fs end) = refuses (fault.Form at)
turn ks s n (group at fs (next d ds)) = group_turn n at fs (next d ds) (look ks (entered (binders_in fs) s) n d ds)
turn ks s n (variable at x e ds) = becomes n (variable_at at x e ds)
turn ks s n (refused at) = refuses (fault.Form at)
turn ks s n (node at h ps) = becomes n (node at h ps)

-- where only so many lists may still stand in each other
abbrev pub moved : ℕ → Turn → Progress Mid
moved room (becomes n m) = if nat_le (mid_nesting m) room then moves n m else stops (fault.Limit limit.Depth)
moved room (refuses f) = stops f

abbrev pub as_last : Progress Mid → Progress Parts
as_last still = still
as_last (moves n m) = moves n (part 0 [] m none)
as_last (stops f) = stops f

-- the forms of a body that are left: an expression that isn't the last joins the sequence
abbrev pub rest_progress : ℕ → Counts → Place → Look → Progress Parts
rest_progress room n at (instead m es) = moves m (rest at es)
rest_progress room n at (expression e (next d ds)) = moves n (part 0 [] (raw e) (rest at (next d ds)))
rest_progress room n at l = as_last (moved room (body_turn n at l))

abbrev pub within : Place → Head → Progress Parts → Progress Mid
within at h still = still
within at h (moves n ps) = moves n (node at h ps)
within at h (stops f) = stops f

-- the first part in which something is left
abbrev pub leftmost : ℕ → List Binder → Mid → Parts → Progress Mid → Progress Parts → Progress Parts
leftmost w xs m ps (moves n k) later = moves n (part w xs k ps)
leftmost w xs m ps (stops f) later = stops f
leftmost w xs m ps still (moves n qs) = moves n (part w xs m qs)
leftmost w xs m ps still (stops f) = stops f
leftmost w xs m ps still still = still

abbrev mutual
  -- the macros, how many lists may still stand in each other, the names around, the counts
  pub step : List Macro → ℕ → List Marked → Counts → Mid → Progress Mid
  step ks room s n (node at h ps) = within at h (steps ks room s n ps)
  step ks room s n m = moved room (turn ks s n m)

  pub steps : List Macro → ℕ → List Marked → Counts → Parts → Progress Parts
  steps ks room s n none = still
  steps ks room s n (part w xs m ps) = leftmost w xs m ps (step ks (room - w) (entered xs s) n m) (steps ks room s n ps)
  steps ks room s n (rest at end) = stops (fault.Form at)
  steps ks room s n (rest at (next d ds)) = rest_progress room n at (look ks s n d ds)

-- Whole rewritings ----------------------------------------------------------------------

-- by replacements, one after another
pub data Reaches (A : Type 0) (F : Counts → A → Progress A) : Counts → A → Counts → A → Type 0 where
  here : {n : Counts} {a : A} → Reaches A F n a n a
  onto : {n m k : Counts} {a b c : A} → F n a ≡ moves m b → Reaches A F m b k c → Reaches A F n a k c

-- at this fault the rewriting stops
pub record StopsAt (A : Type 0) (F : Counts → A → Progress A) (n : Counts) (a : A) (f : ExpandErr) : Type 0 where
  pub counts : Counts
  pub form : A
  pub reaches : Reaches A F n a counts form
  pub stop : F counts form ≡ stops f

-- only this core form stands in the end
pub record Becomes (ks : List Macro) (room : ℕ) (s : List Marked) (n : Counts) (m : Mid) (t : Tree) (after : Counts) : Type 0 where
  pub last : Mid
  pub reaches : Reaches Mid (step ks room s) n m after last
  pub shows : finished last ≡ Some t

pub record BecomeParts (ks : List Macro) (room : ℕ) (s : List Marked) (n : Counts) (ps : Parts) (ts : Trees) (after : Counts) : Type 0 where
  pub last : Parts
  pub reaches : Reaches Parts (steps ks room s) n ps after last
  pub shows : all_finished last ≡ Some ts

-- want of memory is free
abbrev pub Halts : (A : Type 0) → (Counts → A → Progress A) → Counts → A → ExpandErr → Type 0
Halts A F n a fault.Memory = Unit {0}
Halts A F n a f = StopsAt A F n a f

-- what the walk over one form answers
abbrev pub Walked : List Macro → ℕ → List Marked → Counts → Mid → Result CoreExpr ExpandErr → Counts → Type 0
Walked ks room s n m (Ok c) after = Becomes ks room s n m (tree c) after
Walked ks room s n m (Err f) after = Halts Mid (step ks room s) n m f
