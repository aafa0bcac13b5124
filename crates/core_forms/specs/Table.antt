-- What each special form means (R5RS, sections 4.1, 4.2 and 7.3).
use Rattle.std.specs.Prelude.{ℕ, ◌+◌, Bool, true, false, not, if◌then◌else◌, ◌&&◌, is_some, List, [], ◌∷◌, codes, Option, Some, None}
use Rattle.scheme_data.specs.declared.datum.Place.{Place}
use Rattle.scheme_data.specs.Forms.{number, character, truth, unspecified, Form, Forms, atom, symbol, listed, end, next, join, form_says}
use Rattle.scheme_data.specs.TypedNames.{Split, split, has_type}
use Rattle.core_forms.specs.Mid.{quoted, function, branch, assigned, sequence, binding, recursive, exit, protected, Mid, raw, lambda_form, body, node, Parts, none, part}
use Rattle.core_forms.specs.Scope.{sure, clauses_word}
use Rattle.core_forms.specs.Names.{new_name, new_names, with_names, binder_of, binders_of, firsts, seconds, pairs_of, names_of}
use Rattle.core_forms.specs.declared.core_form.Binder.{Binder}
use Rattle.core_forms.specs.declared.counting.Counts.{Counts}
use Rattle.core_forms.specs.declared.words.Keyword.{Keyword}
use Rattle.core_forms.specs.declared.words.Keyword.TheVariants as key
use Rattle.core_forms.specs.declared.error.ExpandErr.{ExpandErr}
use Rattle.core_forms.specs.declared.error.ExpandErr.TheVariants as fault

-- Derived forms -------------------------------------------------------------------------

-- what a row of the table of derived forms form_says
pub data Row : Type 0 where
  -- another form is meant
  means : Counts → Form → Row
  -- it isn't of the row's shape
  wrong : Row
  -- no row is of this word and shape: a core form
  as_it_is : Row

-- what a clause of `cond` form_says
pub data Clause : Type 0 where
  no_clause : Clause
  otherwise : Forms → Clause
  test : Form → Clause
  passes : Form → Form → Clause
  acts : Form → Forms → Clause

abbrev pub otherwise_of : Forms → Clause
otherwise_of end = no_clause
otherwise_of (next e es) = otherwise (next e es)

abbrev pub clause_with : Form → Forms → Clause
clause_with e end = test e
clause_with e (next a (next g end)) = if form_says a (codes "=>") then passes e g else acts e (next a (next g end))
clause_with e es = acts e es

abbrev pub clause_of : Form → Clause
clause_of (listed p (next e es)) = if form_says e (codes "else") then otherwise_of es else clause_with e es
clause_of _ = no_clause

-- a datum of a clause of `case`
abbrev pub is_case_datum : Form → Bool
is_case_datum (atom p (number a)) = true
is_case_datum (atom p (character a)) = true
is_case_datum (atom p (truth a)) = true
is_case_datum (symbol p x m) = true
is_case_datum (listed p end) = true
is_case_datum _ = false

abbrev pub are_case_data : Forms → Bool
are_case_data end = true
are_case_data (next d ds) = is_case_datum d && are_case_data ds

abbrev pub is_last : Forms → Bool
is_last end = true
is_last _ = false

abbrev pub are_clauses : Forms → Bool
are_clauses end = true
are_clauses (next (listed p (next (listed q ds) (next e es))) cs) = are_case_data ds && are_clauses cs
are_clauses (next (listed p (next d (next e es))) cs) = form_says d (codes "else") && is_last cs
are_clauses _ = false

-- `((x i s) ...)` of `do`, where s may be missing
abbrev pub are_variables : Forms → Bool
are_variables end = true
are_variables (next (listed p (next x (next i end))) ds) = are_variables ds
are_variables (next (listed p (next x (next i (next s end)))) ds) = are_variables ds
are_variables _ = false

-- a name without its type
abbrev pub name_of : List ℕ → Option Split → List ℕ
name_of x None = x
name_of x (Some s) = s.before

abbrev pub untyped : Form → Form
untyped (symbol at x m) = symbol at (name_of x (split x)) m
untyped d = d

-- a missing s is x
abbrev pub steps_of : Forms → Forms
steps_of end = end
steps_of (next (listed p (next x (next i (next s es)))) ds) = next s (steps_of ds)
steps_of (next (listed p (next x es)) ds) = next (untyped x) (steps_of ds)
steps_of (next d ds) = steps_of ds

module _ (at : Place) where
  -- lists of these forms, and the core forms of the right sides
  abbrev pub two : Form → Form → Form
  two a b = listed at (next a (next b end))

  abbrev pub three : Form → Form → Form → Form
  three a b c = listed at (next a (next b (next c end)))

  abbrev pub core : List ℕ → Forms → Form
  core x ds = listed at (next (sure at x) ds)

  abbrev pub core_if : Form → Form → Form → Form
  core_if a b c = core (codes "if") (next a (next b (next c end)))

  abbrev pub core_begin : Forms → Form
  core_begin es = core (codes "begin") es

  abbrev pub core_let : Form → Form → Form → Form
  core_let t e b = core (codes "let") (next (listed at (next (two t e) end)) (next b end))

  -- `(let ((t e)) (if t t d))`
  abbrev pub core_or : Form → Form → Form → Form
  core_or t e d = core_let t e (core_if t t d)

  -- `(let ((t e) ...) (letrec ((f (lambda (x ...) b ...))) (f t ...)))`
  abbrev pub core_loop : Form → Forms → Forms → Forms → Forms → Form
  core_loop f ts es xs bs = core (codes "let") (next (listed at (pairs_of at ts es)) (next
      (core (codes "letrec") (next (listed at (next (two f (core (codes "lambda") (next (listed at xs) bs))) end)) (next (listed at (next f ts)) end))) end))

  -- `(eqv? t 'd) ...`
  abbrev pub same_as : Form → Forms → Forms
  same_as t end = end
  same_as t (next d ds) = next (three (sure at (codes "eqv?")) t (core (codes "quote") (next d end))) (same_as t ds)

  abbrev pub results : Forms → Form
  results end = atom at unspecified
  results (next r rs) = core_begin (next r rs)

abbrev pub count : Forms → ℕ
count end = 0
count (next d ds) = 1 + count ds

module _ (n : Counts) (at : Place) where
  abbrev pub t : Form
  t = new_name at n 0

  abbrev pub cond_row : Clause → Forms → Row
  cond_row (otherwise es) end = means n (core_begin at es)
  cond_row (test e) cs = means (with_names n 1) (core_or at t e (core at (codes "cond") cs))
  cond_row (passes e g) cs = means (with_names n 1) (core_let at t e (core_if at t (two at g t) (core at (codes "cond") cs)))
  cond_row (acts e es) cs = means n (core_if at e (core_begin at es) (core at (codes "cond") cs))
  cond_row _ _ = wrong

  -- the table: one case for each row
  abbrev pub derived : Keyword → Forms → Row
  derived key.LetStar (next (listed p end) (next b bs)) = means n (core at (codes "let") (next (listed at end) (next b bs)))
  derived key.LetStar (next (listed p (next x xs)) (next b bs)) = means n (core at (codes "let") (next (listed at (next x end)) (next (core at (codes "let*") (next (listed at xs) (next b bs))) end)))
  derived key.Let (next (symbol p f m) (next (listed q xs) (next b bs))) =
      if is_some (names_of true xs) && not (has_type f) then means (with_names n (count xs)) (core_loop at (symbol p f m) (new_names at n 0 xs) (seconds xs) (firsts xs) (next b bs)) else wrong
  derived key.Let (next (symbol p f m) ds) = wrong
  derived key.Cond end = means n (atom at unspecified)
  derived key.Cond (next c cs) = cond_row (clause_of c) cs
  derived key.Case (next k cs) = if are_clauses cs then means (with_names n 1) (core_let at t k (core at clauses_word (next t cs))) else wrong
  derived key.Clauses (next x end) = means n (atom at unspecified)
  derived key.Clauses (next x (next (listed p (next (listed q ds) es)) cs)) = means n (core_if at (core at (codes "or") (same_as at x ds)) (core_begin at es) (core at clauses_word (next x cs)))
  derived key.Clauses (next x (next (listed p (next d es)) cs)) = means n (core_begin at es)
  derived key.And end = means n (atom at (truth true))
  derived key.And (next e end) = means n e
  derived key.And (next e (next f fs)) = means n (core_if at e (core at (codes "and") (next f fs)) (atom at (truth false)))
  derived key.Or end = means n (atom at (truth false))
  derived key.Or (next e end) = means n e
  derived key.Or (next e (next f fs)) = means (with_names n 1) (core_or at t e (core at (codes "or") (next f fs)))
  derived key.When (next e (next b bs)) = means n (core at (codes "if") (next e (next (core_begin at (next b bs)) end)))
  derived key.Unless (next e (next b bs)) = means n (core_if at e (atom at unspecified) (core_begin at (next b bs)))
  derived key.Do (next (listed p xs) (next (listed q (next e rs)) bs)) =
      if are_variables xs && is_some (binders_of true (firsts xs))
      then means (with_names n (1 + count xs)) (core_loop at t (new_names at n 1 xs) (seconds xs) (firsts xs)
      (next (core_if at e (results at rs) (core_begin at (join bs (next (listed at (next t (steps_of xs))) end)))) end))
      else wrong
  derived key.LetStar ds = wrong
  derived key.Case ds = wrong
  derived key.Clauses ds = wrong
  derived key.When ds = wrong
  derived key.Unless ds = wrong
  derived key.Do ds = wrong
  derived k ds = as_it_is

-- Core forms ----------------------------------------------------------------------------

-- what stands in the place of a form: one whose parts are still to be expanded
pub data Turn : Type 0 where
  becomes : Counts → Mid → Turn
  refuses : ExpandErr → Turn

-- parts that stand in so many lists, in front of other parts
abbrev pub raws : ℕ → Forms → Parts → Parts
raws w end ps = ps
raws w (next d ds) ps = part w [] (raw d) (raws w ds ps)

abbrev pub lambdas : Place → List Binder → Forms → Parts → Parts
lambdas at xs end ps = ps
lambdas at xs (next d ds) ps = part 3 xs (lambda_form at d) (lambdas at xs ds ps)

module _ (n : Counts) (at : Place) where
  abbrev pub function_turn : Option (List Binder) → Forms → Turn
  function_turn None bs = refuses (fault.Form at)
  function_turn (Some xs) bs = becomes n (node at (function xs) (part 1 xs (body at bs) none))

  abbrev pub let_turn : Option (List Binder) → Forms → Forms → Turn
  let_turn None es bs = refuses (fault.Form at)
  let_turn (Some xs) es bs = becomes n (node at (binding xs) (raws 3 es (part 1 xs (body at bs) none)))

  abbrev pub letrec_turn : Option (List Binder) → Forms → Forms → Turn
  letrec_turn None es bs = refuses (fault.Form at)
  letrec_turn (Some fs) es bs = becomes n (node at (recursive fs) (lambdas at fs es (part 1 fs (body at bs) none)))

  abbrev pub exit_turn : Option Binder → Forms → Turn
  exit_turn None bs = refuses (fault.Form at)
  exit_turn (Some k) bs = becomes n (node at (exit k) (part 1 (k ∷ []) (body at bs) none))

  abbrev pub core_turn : Keyword → Forms → Turn
  core_turn key.Quote (next d end) = becomes n (node at (quoted d) none)
  core_turn key.Lambda (next (listed p xs) (next b bs)) = function_turn (binders_of true xs) (next b bs)
  core_turn key.If (next a (next b end)) = becomes n (node at branch (raws 1 (next a (next b end)) none))
  core_turn key.If (next a (next b (next c end))) = becomes n (node at branch (raws 1 (next a (next b (next c end))) none))
  core_turn key.Set (next (symbol p x m) (next e end)) = if has_type x then refuses (fault.Form at) else becomes n (node at (assigned x m) (raws 1 (next e end) none))
  core_turn key.Begin (next e es) = becomes n (node at sequence (raws 1 (next e es) none))
  core_turn key.Let (next (listed p xs) (next b bs)) = let_turn (names_of true xs) (seconds xs) (next b bs)
  core_turn key.Letrec (next (listed p xs) (next b bs)) = letrec_turn (names_of false xs) (seconds xs) (next b bs)
  core_turn key.BindExit (next (listed p (next k end)) (next b bs)) = exit_turn (binder_of false k) (next b bs)
  core_turn key.UnwindProtect (next e (next c cs)) = becomes n (node at protected (raws 1 (next e (next c cs)) none))
  core_turn k ds = refuses (fault.Form at)
