-- What the helpers of the table's rows answer.
use Rattle.std.specs.Prelude.{◌≡◌, Bool, true, false, if◌then◌else◌, List, codes, Option, Some, None, Result, Ok, Err}
use Rattle.scheme_data.specs.declared.datum.Datum.{Datum}
use Rattle.scheme_data.specs.declared.datum.Place.{Place}
use Rattle.scheme_data.specs.Forms.{Form, Forms, form, unspecified, atom, symbol, listed, end, next, form_says}
use Rattle.core_forms.specs.Scope.{sure, clauses_word}
use Rattle.core_forms.specs.Names.{with_names}
use Rattle.core_forms.specs.Table as table
use Rattle.core_forms.specs.Table.{Row, means, wrong, no_clause, otherwise, test, passes, acts, is_case_datum, are_case_data, are_clauses, core, core_begin, core_if, core_let, core_or, same_as, t}
use Rattle.core_forms.specs.Code.{data_of, Refusing, spelling}
use Rattle.core_forms.specs.declared.counting.Counts.{Counts}
use Rattle.core_forms.specs.declared.error.ExpandErr.{ExpandErr}
use Rattle.core_forms.specs.declared.error.ExpandErr.TheVariants as fault
use Rattle.core_forms.specs.declared.words.Keyword.{Keyword}
use Rattle.core_forms.specs.declared.work.Bound.{Bound}
use Rattle.core_forms.specs.declared.work.Open.{Open}
use Rattle.derived_forms.specs.declared.derived.Clause.{Clause}
use Rattle.derived_forms.specs.declared.derived.Clause.TheVariants as clause
use Rattle.derived_forms.specs.declared.derived.Test.{Test}
use Rattle.derived_forms.specs.declared.derived.Derived.{Derived}
use Rattle.derived_forms.specs.declared.derived.Derived.TheVariants as row

-- Clauses ---------------------------------------------------------------------------------

abbrev pub the_clause : Clause → table.Clause
the_clause (clause.Otherwise es) = otherwise (data_of es)
the_clause (clause.Test e) = test (form e)
the_clause (clause.Passes e g) = passes (form e) (form g)
the_clause (clause.Acts e es) = acts (form e) (data_of es)

abbrev pub cond_clause : Option Clause → table.Clause
cond_clause None = no_clause
cond_clause (Some c) = the_clause c

-- `=>` and a receiver
abbrev pub is_passing : Forms → Bool
is_passing (next a (next g end)) = form_says a (codes "=>")
is_passing ds = false

abbrev pub may_stand : Datum → Bool
may_stand d = is_case_datum (form d)

-- only in the last clause of a `case`
abbrev pub is_last_else : Form → Bool → Bool
is_last_else d last = if last then form_says d (codes "else") else false

abbrev pub begins_clause : Form → Bool → Bool
begins_clause (listed q ds) last = are_case_data ds
begins_clause d last = is_last_else d last

-- the parts of a clause of `case`
abbrev pub is_clause_of : Forms → Bool → Bool
is_clause_of (next d (next e es)) last = begins_clause d last
is_clause_of _ last = false

abbrev pub is_clause : Form → Bool → Bool
is_clause (listed p ds) last = is_clause_of ds last
is_clause _ last = false

pub record AreClauses (ds items : List Datum) : Type 0 where
  pub are : are_clauses (data_of ds) ≡ true
  pub same : items ≡ ds

pub record AreNoClauses (ds : List Datum) (at : Place) (e : ExpandErr) : Type 0 where
  pub are : are_clauses (data_of ds) ≡ false
  pub there : e ≡ fault.Form at

-- the clauses of a `case`, where all are
abbrev pub ClausesAs : List Datum → Place → Result (List Datum) ExpandErr → Type 0
ClausesAs ds at (Ok items) = AreClauses ds items
ClausesAs ds at (Err e) = Refusing (AreNoClauses ds at) e

-- `(eqv? key 'd)`
abbrev pub test_of : Place → Form → Form → Form
test_of at k d = table.three at (sure at (codes "eqv?")) k (core at (codes "quote") (next d end))

-- New names -------------------------------------------------------------------------------

-- the first new name, where it is bound and where it is used, and its value
pub record IsBound (n : Counts) (at : Place) (value : Datum) (b : Bound) (after : Counts) : Type 0 where
  pub binder : form b.binder ≡ t n at
  pub name : form b.name ≡ t n at
  pub same : b.value ≡ value
  pub counted : after ≡ with_names n 1

-- what a kept value means: the name in the branch where it holds
abbrev pub kept_row : Counts → Place → Datum → Keyword → List Datum → Row
kept_row n at e k ds = means (with_names n 1) (core_or at (t n at) (form e) (core at (spelling k) (data_of ds)))

abbrev pub passed_row : Counts → Place → Datum → Datum → List Datum → Row
passed_row n at e g ds = means (with_names n 1) (core_let at (t n at) (form e) (core_if at (t n at) (table.two at (form g) (t n at)) (core at (codes "cond") (data_of ds))))

-- Tests -----------------------------------------------------------------------------------

-- a test, and the sequence of what follows
pub data Parts : Type 0 where
  parts : Form → Form → Parts

abbrev pub parts_of : Place → Forms → Option Parts
parts_of at (next e (next b bs)) = Some (parts e (core_begin at (next b bs)))
parts_of at _ = None

pub record HasNoParts (ds : List Datum) (at : Place) (e : ExpandErr) : Type 0 where
  pub are : parts_of at (data_of ds) ≡ None
  pub there : e ≡ fault.Form at

abbrev pub PartsAs : List Datum → Place → Result Test ExpandErr → Type 0
PartsAs ds at (Ok x) = parts_of at (data_of ds) ≡ Some (parts (form x.test) (form x.action))
PartsAs ds at (Err e) = Refusing (HasNoParts ds at) e

-- Rows ------------------------------------------------------------------------------------

abbrev pub meant : Result Open ExpandErr → Result Derived ExpandErr
meant (Ok o) = Ok (row.Means o)
meant (Err e) = Err e

abbrev pub is_symbol : Form → Bool
is_symbol (symbol at x m) = true
is_symbol d = false

-- `(let ((t k)) (case clauses t c ...))`, the names of both places of t being given
abbrev pub case_form : Place → Form → Form → Form → Forms → Form
case_form at b x k cs = core_let at b k (core at clauses_word (next x cs))

-- a `case` with its key
abbrev pub case_row : Counts → Place → Form → Forms → Row
case_row n at k cs = if are_clauses cs then means (with_names n 1) (case_form at (t n at) (t n at) k cs) else wrong

-- a clause by its parts, and those that follow
abbrev pub clause_form : Place → Form → Form → Forms → Forms → Form
clause_form at x (listed q ds) es cs = core_if at (core at (codes "or") (same_as at x ds)) (core_begin at es) (core at clauses_word (next x cs))
clause_form at x d es cs = core_begin at es

abbrev pub clause_row : Counts → Place → Form → Form → Forms → Row
clause_row n at x (listed p (next d es)) cs = means n (clause_form at x d es cs)
clause_row n at x d cs = wrong

abbrev pub clauses_row : Counts → Place → Form → Forms → Row
clauses_row n at x end = means n (atom at unspecified)
clauses_row n at x (next c cs) = clause_row n at x c cs
