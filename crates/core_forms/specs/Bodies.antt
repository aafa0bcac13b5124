-- What stands first among the forms of a body, and what a use of a macro becomes.
use Rattle.std.specs.Prelude.{◌+◌, true, if◌then◌else◌, nat_lt, nat_le, is_none, List, [], ◌∷◌, ◌++◌, codes, Option, Some, None}
use Rattle.scheme_data.specs.declared.datum.Place.{Place}
use Rattle.scheme_data.specs.Forms.{Form, Forms, listed, end, next, join, form_nesting, form_size, form_place}
use Rattle.syntax_rules.specs.Trees.{Macro}
use Rattle.syntax_rules.specs.Uses.{used_once}
use Rattle.core_forms.specs.Scope.{Meaning, macro, special, plain, keyword, head_meaning, parts_of, Marked, all_marked, is_bound}
use Rattle.core_forms.specs.Names.{binder_of}
use Rattle.core_forms.specs.Mid.{Function, Mid, raw, body, group, variable, refused, node, Parts, none, part, rest, sequence, binding, recursive}
use Rattle.core_forms.specs.Table.{Row, means, wrong, as_it_is, derived, core, Turn, becomes, refuses}
use Rattle.core_forms.specs.declared.core_form.Binder.{Binder}
use Rattle.core_forms.specs.declared.counting.Counts.{Counts}
use Rattle.core_forms.specs.declared.words.Keyword.{Keyword}
use Rattle.core_forms.specs.declared.words.Keyword.TheVariants as key
use Rattle.core_forms.specs.declared.error.ExpandErr.{ExpandErr}
use Rattle.core_forms.specs.declared.error.ExpandErr.TheVariants as fault
use Rattle.scheme_data.specs.declared.datum.LimitKind.TheVariants as limit

-- Macro uses ----------------------------------------------------------------------------

pub data Used : Type 0 where
  gives : Counts → Form → Used
  fails : ExpandErr → Used

-- the use is counted, and so are the data of what it gives
abbrev pub counted : Counts → Form → Counts
counted n d = record { expansions = n.expansions + 1; filled = n.filled + form_size d; names = n.names }

abbrev pub within_limits : Counts → Form → Used
within_limits n d =
    if nat_lt n.expansions 20000 then (if nat_le (n.filled + form_size d) 1000000 then (if nat_le (form_nesting d) 1000 then gives (counted n d) d else fails (fault.Limit limit.Depth)) else fails (fault.Limit limit.Filled))
    else fails (fault.Limit limit.Expansions)

abbrev pub limited : Counts → Place → Option Form → Used
limited n at None = fails (fault.NoRule at)
limited n at (Some d) = within_limits n d

abbrev pub used : Macro → Counts → Form → Used
used k n d = limited n (form_place d) (used_once k (form_place d) (n.expansions + 1) d)

-- Heads ---------------------------------------------------------------------------------

-- what is decided of an expression by its head
pub data Settled : Type 0 where
  -- another expression stands there
  again : Counts → Form → Settled
  stuck : ExpandErr → Settled
  is_core : Keyword → Settled
  is_plain : Settled

abbrev pub settled_by : Used → Settled
settled_by (gives n d) = again n d
settled_by (fails f) = stuck f

abbrev pub settled_row : Place → Keyword → Row → Settled
settled_row at k (means n d) = again n d
settled_row at k wrong = stuck (fault.Form at)
settled_row at k as_it_is = is_core k

abbrev pub settled_as : Meaning → Counts → Form → Settled
settled_as (macro k) n d = settled_by (used k n d)
settled_as (special k) n d = settled_row (form_place d) k (derived n (form_place d) k (parts_of d))
settled_as plain n d = is_plain

abbrev pub settled : List Macro → List Marked → Counts → Form → Settled
settled ks s n d = settled_as (head_meaning ks s d) n d

-- Definitions ---------------------------------------------------------------------------

pub data Definition : Type 0 where
  -- `(define x e)`: the name, the word, x and e
  value : Binder → Form → Form → Form → Definition
  -- `(define (f x ...) b ...)`: the name, and what would follow the word of a `lambda`
  procedure : Binder → Forms → Definition

-- the word of a special form isn't defined
abbrev pub definable : Option Binder → (Binder → Definition) → Option Definition
definable None f = None
definable (Some x) f = if is_none (keyword x.name) then Some (f x) else None

abbrev pub definition_of : Form → Option Definition
definition_of (listed at (next word (next (listed p (next f xs)) (next b bs)))) = definable (binder_of true f) (λ x. procedure x (next (listed p xs) (next b bs)))
definition_of (listed at (next word (next x (next e end)))) = definable (binder_of true x) (λ y. value y word x e)
definition_of _ = None

-- Bodies --------------------------------------------------------------------------------

-- what stands first in a body
pub data Look : Type 0 where
  -- these forms stand there, and what follows, in its place
  instead : Counts → Forms → Look
  -- a definition, and the forms that follow
  of_variable : Place → Binder → Form → Forms → Look
  of_function : Place → Function → Forms → Look
  expression : Form → Forms → Look
  breach : ExpandErr → Look

-- a `lambda` form with these parts
abbrev pub function_at : Binder → Place → Forms → Function
function_at x at ds = record { binder = x; value = core at (codes "lambda") ds }

-- whether its value is a `lambda` form is known when its head is settled
abbrev pub value_look : Place → Binder → Form → Form → Form → Forms → Settled → Look
value_look at x word name e ds (again n d) = instead n (next (listed at (next word (next name (next d end)))) ds)
value_look at x word name e ds (stuck f) = breach f
value_look at x word name e ds (is_core key.Lambda) = of_function at (function_at x (form_place e) (parts_of e)) ds
value_look at x word name e ds _ = of_variable at x e ds

-- a definition isn't the last form
abbrev pub define_look : List Macro → List Marked → Counts → Place → Option Definition → Forms → Look
define_look ks s n at None ds = breach (fault.Form at)
define_look ks s n at (Some d) end = breach (fault.Form at)
define_look ks s n at (Some (procedure x parts)) ds = of_function at (function_at x at parts) ds
define_look ks s n at (Some (value x word name e)) ds = value_look at x word name e ds (settled ks s n e)

-- the forms of a `begin` stand in its place
abbrev pub begin_look : Counts → Place → Forms → Forms → Look
begin_look n at end ds = breach (fault.Form at)
begin_look n at (next e es) ds = instead n (join (next e es) ds)

abbrev pub used_look : Used → Forms → Look
used_look (gives n d) ds = instead n (next d ds)
used_look (fails f) ds = breach f

abbrev pub look_as : Meaning → List Macro → List Marked → Counts → Form → Forms → Look
look_as (macro k) ks s n d ds = used_look (used k n d) ds
look_as (special key.Begin) ks s n d ds = begin_look n (form_place d) (parts_of d) ds
look_as (special key.Define) ks s n d ds = define_look ks s n (form_place d) (definition_of d) ds
look_as _ ks s n d ds = expression d ds

abbrev pub look : List Macro → List Marked → Counts → Form → Forms → Look
look ks s n d ds = look_as (head_meaning ks s d) ks s n d ds

abbrev pub variable_at : Place → Binder → Form → Forms → Mid
variable_at at x e ds = node at (binding (x ∷ [])) (part 3 [] (raw e) (part 1 (x ∷ []) (body at ds) none))

-- a `let` over the forms that follow; an expression that isn't the last begins a sequence
abbrev pub body_turn : Counts → Place → Look → Turn
body_turn n at (instead m ds) = becomes m (body at ds)
body_turn n at (of_variable p x e ds) = becomes n (variable_at p x e ds)
body_turn n at (of_function p f ds) = becomes n (group p (f ∷ []) ds)
body_turn n at (expression d end) = becomes n (raw d)
body_turn n at (expression d ds) = becomes n (node at sequence (part 0 [] (raw d) (rest at ds)))
body_turn n at (breach f) = refuses f

abbrev pub binders_in : List Function → List Binder
binders_in [] = []
binders_in (f ∷ fs) = f.binder ∷ binders_in fs

abbrev pub functions : List Binder → List Function → Parts → Parts
functions xs [] ps = ps
functions xs (f ∷ fs) ps = part 3 xs (raw f.value) (functions xs fs ps)

abbrev pub letrec_at : Place → List Function → Mid → Mid
letrec_at at fs m = node at (recursive (binders_in fs)) (functions (binders_in fs) fs (part 1 (binders_in fs) m none))

-- Neighbours are one `letrec` over the forms that follow. What is no definition of a function ends it, a breach included,
-- which waits until the functions are expanded; and so does a second definition of one name. A use of a macro that isn't
-- expanded is tried again then.
abbrev pub group_turn : Counts → Place → List Function → Forms → Look → Turn
group_turn n at fs ds (instead m es) = becomes m (group at fs es)
group_turn n at fs ds (of_function p f es) =
    if is_bound f.binder.name f.binder.mark (all_marked (binders_in fs)) then becomes n (letrec_at at fs (refused p)) else becomes n (group at (fs ++ f ∷ []) es)
group_turn n at fs ds (of_variable p x e es) = becomes n (letrec_at at fs (variable p x e es))
group_turn n at fs ds (breach (fault.Form p)) = becomes n (letrec_at at fs (refused p))
group_turn n at fs ds _ = becomes n (letrec_at at fs (body at ds))
