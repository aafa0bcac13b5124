-- The rows of the table, case by case.
use Rattle.std.proofs.Common.{◌≡◌, Bool, true, false, List, [], ◌∷◌, Some, None, Result, Ok, Err, slice_get, refl, sym, ap, ◌∙◌, subst}
use Rattle.std.specs.Prelude.{codes}
use Rattle.scheme_data.specs.declared.datum.Place.{Place}
use Rattle.scheme_data.specs.declared.datum.Datum.{Datum}
use Rattle.scheme_data.specs.declared.datum.Datum.TheViews as views
use Rattle.scheme_data.specs.Forms.{Form, Forms, form, atom, symbol, listed, dotted, vector, end, next}
use Rattle.core_forms.specs.Table.{Row, means, wrong, derived, as_it_is, Clause, otherwise, cond_row, are_clauses, same_as, core, core_if, core_begin}
use Rattle.core_forms.specs.Table as table
use Rattle.core_forms.specs.Code.{data_of, items_in}
use Rattle.core_forms.specs.Working.{open_of, IsWrong, MeansAs}
use Rattle.core_forms.specs.declared.counting.Counts.{Counts}
use Rattle.core_forms.specs.declared.words.Keyword.{Keyword}
use Rattle.core_forms.specs.declared.words.Keyword.TheVariants as key
use Rattle.core_forms.specs.declared.error.ExpandErr.{ExpandErr}
use Rattle.core_forms.specs.declared.error.ExpandErr.TheVariants as fault
use Rattle.core_forms.specs.declared.work.Open.{Open}
use Rattle.core_forms.specs.declared.work.Open.TheVariants as open_form
use Rattle.derived_forms.specs.Clauses.{kept_row, parts, parts_of, is_symbol, case_row, case_form, clauses_row, clause_row, clause_form, ClausesAs, AreClauses, meant}
use Rattle.derived_forms.specs.Rows.{begins_with_symbol, IsCore, DerivedAs}
use Rattle.derived_forms.specs.declared.derived.Derived.{Derived}
use Rattle.core_forms.specs.Names.{with_names}
use Rattle.core_forms.specs.Scope.{clauses_word}
use Rattle.derived_forms.proofs.ClauseSteps.{list_form}

-- `and` -----------------------------------------------------------------------------------

and_some : (n : Counts) (at : Place) (first : Datum) (ds : List Datum) → (ds ≡ [] → ⊥) → derived n at key.And (data_of (first ∷ ds)) ≡ means n (open_of (open_form.Both at first ds))
and_some n at first [] h = absurd (h refl)
and_some n at first (d ∷ ds) h = refl

pub and_more : (n : Counts) (at : Place) (all : List Datum) (first : Datum) (ds : List Datum) → all ≡ first ∷ ds → (ds ≡ [] → ⊥) → derived n at key.And (data_of all) ≡ means n (open_of (open_form.Both at first ds))
and_more n at all first ds e h = ap (λ (all : List Datum). derived n at key.And (data_of all)) e ∙ and_some n at first ds h

-- `when` and `unless` ---------------------------------------------------------------------

parts_some : (at : Place) (first : Datum) (ds : List Datum) → (ds ≡ [] → ⊥) → parts_of at (data_of (first ∷ ds)) ≡ Some (parts (form first) (core_begin at (data_of ds)))
parts_some at first [] h = absurd (h refl)
parts_some at first (d ∷ ds) h = refl

pub test_parts : (at : Place) (all : List Datum) (first : Datum) (ds items : List Datum) (action : Datum) → all ≡ first ∷ ds → (ds ≡ [] → ⊥) → items ≡ ds → form action ≡ core_begin at (data_of items)
    → parts_of at (data_of all) ≡ Some (parts (form first) (form action))
test_parts at all first ds items action e h same f = ap (λ (all : List Datum). parts_of at (data_of all)) e ∙ parts_some at first ds h
    ∙ ap (λ (a : Form). Some (parts (form first) a)) (ap (λ (ds : List Datum). core_begin at (data_of ds)) (sym same) ∙ sym f)

-- `or` ------------------------------------------------------------------------------------

or_some : (n : Counts) (at : Place) (first : Datum) (ds : List Datum) → (ds ≡ [] → ⊥) → derived n at key.Or (data_of (first ∷ ds)) ≡ kept_row n at first key.Or ds
or_some n at first [] h = absurd (h refl)
or_some n at first (d ∷ ds) h = refl

pub or_more : (n : Counts) (at : Place) (all : List Datum) (first : Datum) (ds : List Datum) (r : Result Open ExpandErr) (after : Counts) → all ≡ first ∷ ds → (ds ≡ [] → ⊥)
    → MeansAs (kept_row n at first key.Or ds) at n r after → MeansAs (derived n at key.Or (data_of all)) at n r after
or_more n at all first ds r after e h k = subst (λ (row : Row). MeansAs row at n r after) (sym (ap (λ (all : List Datum). derived n at key.Or (data_of all)) e ∙ or_some n at first ds h)) k

-- `let*` ----------------------------------------------------------------------------------

first_some : (n : Counts) (at p : Place) (first : Datum) (ds body : List Datum) → (body ≡ [] → ⊥) → derived n at key.LetStar (next (listed p (data_of (first ∷ ds))) (data_of body)) ≡ means n (open_of (open_form.LetFirst at first ds body))
first_some n at p first ds [] h = absurd (h refl)
first_some n at p first ds (b ∷ bs) h = refl

pub let_first : (n : Counts) (at p : Place) (all : List Datum) (first : Datum) (ds body : List Datum) → all ≡ first ∷ ds → (body ≡ [] → ⊥)
    → derived n at key.LetStar (next (listed p (data_of all)) (data_of body)) ≡ means n (open_of (open_form.LetFirst at first ds body))
let_first n at p all first ds body e h = ap (λ (all : List Datum). derived n at key.LetStar (next (listed p (data_of all)) (data_of body))) e ∙ first_some n at p first ds body h

last_some : (n : Counts) (at p : Place) (body : List Datum) → (body ≡ [] → ⊥) → derived n at key.LetStar (next (listed p end) (data_of body)) ≡ means n (core at (codes "let") (next (listed at end) (data_of body)))
last_some n at p [] h = absurd (h refl)
last_some n at p (b ∷ bs) h = refl

pub let_last : (n : Counts) (at p : Place) (all body more none : List Datum) → all ≡ [] → (body ≡ [] → ⊥) → none ≡ [] → more ≡ views.List at none ∷ body
    → derived n at key.LetStar (next (listed p (data_of all)) (data_of body)) ≡ means n (core at (codes "let") (data_of more))
let_last n at p all body more none e h f g =
    ap (λ (all : List Datum). derived n at key.LetStar (next (listed p (data_of all)) (data_of body))) e ∙ last_some n at p body h
    ∙ sym (ap (λ (more : List Datum). means n (core at (codes "let") (data_of more))) g ∙ ap (λ (f : Form). means n (core at (codes "let") (next f (data_of body)))) (list_form (views.List at none) at none refl ∙ ap (λ (ds : List Datum). listed at (data_of ds)) f))

let_none : (n : Counts) (at : Place) (f : Form) (bs : Forms) → items_in f ≡ None → derived n at key.LetStar (next f bs) ≡ wrong
let_none n at (atom p a) bs h = refl
let_none n at (symbol p x m) bs h = refl
let_none n at (listed p ds) bs h = absurd (cc)
let_none n at (dotted p ds d) bs h = refl
let_none n at (vector p ds) bs h = refl

pub let_refused : (n : Counts) (at : Place) (f : Form) (bs : Forms) → items_in f ≡ None → IsWrong (derived n at key.LetStar (next f bs)) at n n (fault.Form at)
let_refused n at f bs h = record { is = let_none n at f bs h; there = refl; same = refl }

pub let_listed : (n : Counts) (at : Place) (f : Form) (ds bs : Forms) (r : Result Open ExpandErr) → items_in f ≡ Some ds → ((p : Place) → MeansAs (derived n at key.LetStar (next (listed p ds) bs)) at n r n)
    → MeansAs (derived n at key.LetStar (next f bs)) at n r n
let_listed n at (atom p a) ds bs r h k = absurd (cc)
let_listed n at (symbol p x m) ds bs r h k = absurd (cc)
let_listed n at (dotted p es d) ds bs r h k = absurd (cc)
let_listed n at (vector p es) ds bs r h k = absurd (cc)
let_listed n at (listed p es) ds bs r h k = let same : ds ≡ es = cc in subst (λ (es : Forms). MeansAs (derived n at key.LetStar (next (listed p es) bs)) at n r n) same (k p)

-- a row by what stands first
pub row_first : (n : Counts) (k : Keyword) (at : Place) (all : List Datum) (first : Datum) (ds : List Datum) (r : Result Open ExpandErr) (after : Counts) → all ≡ first ∷ ds
    → MeansAs (derived n at k (next (form first) (data_of ds))) at n r after → MeansAs (derived n at k (data_of all)) at n r after
row_first n k at all first ds r after e h = subst (λ (all : List Datum). MeansAs (derived n at k (data_of all)) at n r after) (sym e) h

-- `cond` ----------------------------------------------------------------------------------

else_some : (n : Counts) (at : Place) (es : Forms) (ds : List Datum) → (ds ≡ [] → ⊥) → cond_row n at (otherwise es) (data_of ds) ≡ wrong
else_some n at es [] h = absurd (h refl)
else_some n at es (d ∷ ds) h = refl

pub else_refused : (n : Counts) (at : Place) (c : Clause) (es : Forms) (ds : List Datum) → c ≡ otherwise es → (ds ≡ [] → ⊥) → IsWrong (cond_row n at c (data_of ds)) at n n (fault.Form at)
else_refused n at c es ds e h = record { is = ap (λ (c : Clause). cond_row n at c (data_of ds)) e ∙ else_some n at es ds h; there = refl; same = refl }

-- `case` ----------------------------------------------------------------------------------

pub case_refused : (n : Counts) (at : Place) (k : Form) (ds : List Datum) (e : ExpandErr) → ClausesAs ds at (Err e) → MeansAs (case_row n at k (data_of ds)) at n (Err e) n
case_refused n at k ds (fault.BadRules p) h = record { is = rw h.are refl; there = h.there; same = refl }
case_refused n at k ds (fault.NoRule p) h = record { is = rw h.are refl; there = h.there; same = refl }
case_refused n at k ds (fault.Form p) h = record { is = rw h.are refl; there = h.there; same = refl }
case_refused n at k ds (fault.Limit l) h = record { is = rw h.are refl; there = h.there; same = refl }
case_refused n at k ds fault.Memory h = tt

case_of : (n : Counts) (at : Place) (k : Form) (cs : Forms) → are_clauses cs ≡ true → case_row n at k cs ≡ means (with_names n 1) (case_form at (table.t n at) (table.t n at) k cs)
case_of n at k cs h = rw h refl

pub case_made : (n : Counts) (at : Place) (k : Datum) (ds items : List Datum) (after : Counts) (o : Open) → AreClauses ds items → open_of o ≡ case_form at (table.t n at) (table.t n at) (form k) (data_of items) → after ≡ with_names n 1
    → case_row n at (form k) (data_of ds) ≡ means after (open_of o)
case_made n at k ds items after o h e g = case_of n at (form k) (data_of ds) h.are ∙ sym (ap (λ (m : Counts). means m (open_of o)) g ∙ ap (means (with_names n 1)) (e
    ∙ ap (λ (cs : List Datum). case_form at (table.t n at) (table.t n at) (form k) (data_of cs)) h.same))

-- The clauses of a `case` -----------------------------------------------------------------

by_clause : (n : Counts) (at : Place) (x c : Form) (cs : Forms) → derived n at key.Clauses (next x (next c cs)) ≡ clause_row n at x c cs
by_clause n at x (atom p a) cs = refl
by_clause n at x (symbol p y m) cs = refl
by_clause n at x (dotted p ds d) cs = refl
by_clause n at x (vector p ds) cs = refl
by_clause n at x (listed p end) cs = refl
by_clause n at x (listed p (next (atom q a) es)) cs = refl
by_clause n at x (listed p (next (symbol q y m) es)) cs = refl
by_clause n at x (listed p (next (listed q ds) es)) cs = refl
by_clause n at x (listed p (next (dotted q ds d) es)) cs = refl
by_clause n at x (listed p (next (vector q ds) es)) cs = refl

by_clauses : (n : Counts) (at : Place) (x : Form) (cs : Forms) → derived n at key.Clauses (next x cs) ≡ clauses_row n at x cs
by_clauses n at x end = refl
by_clauses n at x (next c cs) = by_clause n at x c cs

pub clauses_first : (n : Counts) (at : Place) (all : List Datum) (first : Datum) (ds : List Datum) (r : Result Open ExpandErr) → all ≡ first ∷ ds
    → MeansAs (clauses_row n at (form first) (data_of ds)) at n r n → MeansAs (derived n at key.Clauses (data_of all)) at n r n
clauses_first n at all first ds r e h = subst (λ (row : Row). MeansAs row at n r n) (sym (ap (λ (all : List Datum). derived n at key.Clauses (data_of all)) e ∙ by_clauses n at (form first) (data_of ds))) h

row_none : (n : Counts) (at : Place) (x f : Form) (cs : Forms) → items_in f ≡ None → clause_row n at x f cs ≡ wrong
row_none n at x (atom p a) cs h = refl
row_none n at x (symbol p y m) cs h = refl
row_none n at x (listed p ds) cs h = absurd (cc)
row_none n at x (dotted p ds d) cs h = refl
row_none n at x (vector p ds) cs h = refl

row_some : (n : Counts) (at : Place) (x f d : Form) (es cs : Forms) → items_in f ≡ Some (next d es) → clause_row n at x f cs ≡ means n (clause_form at x d es cs)
row_some n at x (atom p a) d es cs h = absurd (cc)
row_some n at x (symbol p y m) d es cs h = absurd (cc)
row_some n at x (dotted p ds e) d es cs h = absurd (cc)
row_some n at x (vector p ds) d es cs h = absurd (cc)
row_some n at x (listed p ds) d es cs h = let same : ds ≡ next d es = cc in ap (λ (ds : Forms). clause_row n at x (listed p ds) cs) same

row_empty : (n : Counts) (at : Place) (x f : Form) (cs : Forms) → items_in f ≡ Some end → clause_row n at x f cs ≡ wrong
row_empty n at x (atom p a) cs h = absurd (cc)
row_empty n at x (symbol p y m) cs h = absurd (cc)
row_empty n at x (dotted p ds e) cs h = absurd (cc)
row_empty n at x (vector p ds) cs h = absurd (cc)
row_empty n at x (listed p ds) cs h = let same : ds ≡ end = cc in ap (λ (ds : Forms). clause_row n at x (listed p ds) cs) same

pub clause_refused : (n : Counts) (at : Place) (x f : Form) (cs : Forms) → items_in f ≡ None → IsWrong (clause_row n at x f cs) at n n (fault.Form at)
clause_refused n at x f cs h = record { is = row_none n at x f cs h; there = refl; same = refl }

pub clause_empty : (n : Counts) (at : Place) (x f : Form) (items : List Datum) (cs : Forms) → items_in f ≡ Some (data_of items) → items ≡ [] → IsWrong (clause_row n at x f cs) at n n (fault.Form at)
clause_empty n at x f items cs h e = record { is = row_empty n at x f cs (h ∙ ap (λ (ds : List Datum). Some (data_of ds)) e); there = refl; same = refl }

pub clause_made : (n : Counts) (at : Place) (x f : Form) (items : List Datum) (d : Datum) (es : List Datum) (cs : Forms) (o : Open) → items_in f ≡ Some (data_of items) → items ≡ d ∷ es
    → open_of o ≡ clause_form at x (form d) (data_of es) cs → clause_row n at x f cs ≡ means n (open_of o)
clause_made n at x f items d es cs o h e g = row_some n at x f (form d) (data_of es) cs (h ∙ ap (λ (ds : List Datum). Some (data_of ds)) e) ∙ ap (means n) (sym g)

pub form_none : (at : Place) (x f : Form) (es cs : Forms) → items_in f ≡ None → clause_form at x f es cs ≡ core_begin at es
form_none at x (atom p a) es cs h = refl
form_none at x (symbol p y m) es cs h = refl
form_none at x (listed p ds) es cs h = absurd (cc)
form_none at x (dotted p ds d) es cs h = refl
form_none at x (vector p ds) es cs h = refl

pub form_some : (at : Place) (x f : Form) (ds es cs : Forms) → items_in f ≡ Some ds → clause_form at x f es cs ≡ core_if at (core at (codes "or") (same_as at x ds)) (core_begin at es) (core at clauses_word (next x cs))
form_some at x (atom p a) ds es cs h = absurd (cc)
form_some at x (symbol p y m) ds es cs h = absurd (cc)
form_some at x (dotted p bs d) ds es cs h = absurd (cc)
form_some at x (vector p bs) ds es cs h = absurd (cc)
form_some at x (listed p bs) ds es cs h = let same : bs ≡ ds = cc in ap (λ (bs : Forms). core_if at (core at (codes "or") (same_as at x bs)) (core_begin at es) (core at clauses_word (next x cs))) same

-- The table -------------------------------------------------------------------------------

pub symbol_first : (ds : List Datum) (d : Datum) (r : Bool) → slice_get ds 0 ≡ Some d → r ≡ is_symbol (form d) → r ≡ begins_with_symbol (data_of ds)
symbol_first [] d r h e = absurd (cc)
symbol_first (x ∷ xs) d r h e = let same : d ≡ x = cc in e ∙ ap (λ (d : Datum). is_symbol (form d)) same ∙ begins (form x) (data_of xs)
  where
    begins : (f : Form) (fs : Forms) → is_symbol f ≡ begins_with_symbol (next f fs)
    begins (atom p a) fs = refl
    begins (symbol p x m) fs = refl
    begins (listed p ds) fs = refl
    begins (dotted p ds d) fs = refl
    begins (vector p ds) fs = refl

let_core : (n : Counts) (at : Place) (ds : Forms) → begins_with_symbol ds ≡ false → derived n at key.Let ds ≡ as_it_is
let_core n at end h = refl
let_core n at (next (atom p a) ds) h = refl
let_core n at (next (symbol p x m) ds) h = absurd (cc)
let_core n at (next (listed p es) ds) h = refl
let_core n at (next (dotted p es d) ds) h = refl
let_core n at (next (vector p es) ds) h = refl

pub let_is_core : (n : Counts) (at : Place) (ds : List Datum) → begins_with_symbol (data_of ds) ≡ false → IsCore (derived n at key.Let (data_of ds)) ds ds n n
let_is_core n at ds h = record { is = let_core n at (data_of ds) h; same = refl; forms_same = refl }

pub meant_as : (r : Row) (at : Place) (ds : List Datum) (before after : Counts) (answer : Result Open ExpandErr) (result : Result Derived ExpandErr) → result ≡ meant answer → MeansAs r at before answer after → DerivedAs r at ds before result after
meant_as r at ds before after (Ok o) result e h = subst (λ (x : Result Derived ExpandErr). DerivedAs r at ds before x after) (sym e) h
meant_as r at ds before after (Err f) result e h = subst (λ (x : Result Derived ExpandErr). DerivedAs r at ds before x after) (sym e) h

pub row_meant : (k j : Keyword) (at : Place) (ds : List Datum) (before after : Counts) (answer : Result Open ExpandErr) (result : Result Derived ExpandErr) → k ≡ j → result ≡ meant answer
    → MeansAs (derived before at j (data_of ds)) at before answer after → DerivedAs (derived before at k (data_of ds)) at ds before result after
row_meant k j at ds before after answer result e f h = subst (λ (k : Keyword). DerivedAs (derived before at k (data_of ds)) at ds before result after) (sym e) (meant_as _ at ds before after answer result f h)

pub let_stacked : (n : Counts) (at : Place) (f : Form) (ds items bs : List Datum) (r : Result Open ExpandErr) → items_in f ≡ Some (data_of ds) → items ≡ ds → ((p : Place) → MeansAs (derived n at key.LetStar (next (listed p (data_of items)) (data_of bs))) at n r n)
    → MeansAs (derived n at key.LetStar (next f (data_of bs))) at n r n
let_stacked n at f ds items bs r h e k = let_listed n at f (data_of items) (data_of bs) r (h ∙ ap (λ (ds : List Datum). Some (data_of ds)) (sym e)) k

pub form_made : (at : Place) (f : Form) (k x a : Datum) (choices items ds more : List Datum) → form x ≡ core at (codes "or") (same_as at (form k) (data_of choices)) → form a ≡ core_begin at (data_of items) → more ≡ k ∷ ds → items_in f ≡ Some (data_of choices)
    → core_if at (form x) (form a) (core at clauses_word (data_of more)) ≡ clause_form at (form k) f (data_of items) (data_of ds)
form_made at f k x a choices items ds more e g h i =
    ap (λ (x : Form). core_if at x (form a) (core at clauses_word (data_of more))) e
    ∙ ap (λ (a : Form). core_if at (core at (codes "or") (same_as at (form k) (data_of choices))) a (core at clauses_word (data_of more))) g
    ∙ ap (λ (more : List Datum). core_if at (core at (codes "or") (same_as at (form k) (data_of choices))) (core_begin at (data_of items)) (core at clauses_word (data_of more))) h
    ∙ sym (form_some at (form k) f (data_of choices) (data_of items) (data_of ds) i)

pub row_same : (k j : Keyword) (at : Place) (ds : List Datum) (before after : Counts) (result : Result Derived ExpandErr) → k ≡ j
    → DerivedAs (derived before at j (data_of ds)) at ds before result after → DerivedAs (derived before at k (data_of ds)) at ds before result after
row_same k j at ds before after result e h = subst (λ (k : Keyword). DerivedAs (derived before at k (data_of ds)) at ds before result after) (sym e) h

pub core_word : (k j : Keyword) (n : Counts) (at : Place) (ds : List Datum) → k ≡ j → derived n at j (data_of ds) ≡ as_it_is → IsCore (derived n at k (data_of ds)) ds ds n n
core_word k j n at ds e h = record { is = ap (λ (k : Keyword). derived n at k (data_of ds)) e ∙ h; same = refl; forms_same = refl }
