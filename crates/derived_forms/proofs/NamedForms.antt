-- Forms with new names, step by step.
use Rattle.std.proofs.Common.{◌≡◌, ℕ, ◌+◌, ◌<◌, Bool, List, [], ◌∷◌, ◌++◌, length, remove, slice_get, Option, Some, None, Result, IfOk, refl, sym, ap, subst, ◌∙◌, arith}
use Rattle.std.specs.Prelude.{codes}
use Rattle.std.specs.Option.{option_map}
use Rattle.scheme_data.specs.declared.datum.Place.{Place}
use Rattle.scheme_data.specs.declared.datum.Datum.{Datum}
use Rattle.scheme_data.specs.declared.datum.Datum as datum
use Rattle.scheme_data.specs.declared.datum.Datum.TheViews as views
use Rattle.scheme_data.specs.declared.text.OutOfMemory.{OutOfMemory}
use Rattle.scheme_data.specs.Forms.{Form, Forms, form, symbol, listed, end, next, join}
use Rattle.scheme_data.specs.TypedNames.{Typed, typed, has_type}
use Rattle.core_forms.specs.Scope.{clauses_word}
use Rattle.core_forms.specs.Names.{with_names}
use Rattle.core_forms.specs.Table.{means, t, two, core, core_begin, core_let, core_if}
use Rattle.core_forms.specs.Code.{data_of, items_in, spelling}
use Rattle.core_forms.specs.Working.{open_of}
use Rattle.core_forms.specs.declared.counting.Counts.{Counts}
use Rattle.core_forms.specs.declared.words.Keyword.{Keyword}
use Rattle.core_forms.specs.declared.words.Keyword.TheVariants as key
use Rattle.core_forms.specs.declared.work.Bound.{Bound}
use Rattle.core_forms.specs.declared.work.Open.TheVariants as open_form
use Rattle.derived_forms.specs.Clauses.{IsBound, kept_row, passed_row, test_of}
use Rattle.derived_forms.specs.LoopViews.{is_typed, bare_name, named_with, step_or, Repeated, do_with, do_parts}
use Rattle.core_forms.proofs.Views.{form-Sym}
use Rattle.derived_forms.proofs.ClauseSteps.{list_form}
use Rattle.derived_forms.proofs.LoopForms.{first-name, pushed}

-- Lists, one by one -----------------------------------------------------------------------

pub one_item : (none items : List Datum) (d : Datum) → none ≡ [] → items ≡ none ++ d ∷ [] → items ≡ d ∷ []
one_item none items d e f = f ∙ ap (λ (ds : List Datum). ds ++ d ∷ []) e

pub two_items : (none items more : List Datum) (d e : Datum) → none ≡ [] → items ≡ none ++ d ∷ [] → more ≡ items ++ e ∷ [] → more ≡ d ∷ e ∷ []
two_items none items more d e f g h = h ∙ ap (λ (ds : List Datum). ds ++ e ∷ []) (one_item none items d f g)

pub has_first : (ds : List Datum) (f : Form) (fs : Forms) → data_of ds ≡ next f fs → 0 < length ds
has_first [] f fs h = absurd (cc)
has_first (d ∷ ds) f fs h = omega arith

pub first_form : (ds : List Datum) (d : Datum) (f : Form) (fs : Forms) → data_of ds ≡ next f fs → slice_get ds 0 ≡ Some d → form d ≡ f
first_form [] d f fs h g = absurd (cc)
first_form (x ∷ xs) d f fs h g = let same : x ≡ d = cc in let here : form x ≡ f = cc in ap form (sym same) ∙ here

-- Names -----------------------------------------------------------------------------------

-- the second of two, and then the first
pub second_in : (ps : List Datum) (v x : Datum) → ps ≡ v ∷ x ∷ [] → 1 < length ps
second_in ps v x e = rw e (omega arith)

pub second_is : (ps : List Datum) (v x d : Datum) → ps ≡ v ∷ x ∷ [] → slice_get ps 1 ≡ Some d → d ≡ x
second_is ps v x d e g = let h : slice_get (v ∷ x ∷ []) 1 ≡ Some d = subst (λ (ps : List Datum). slice_get ps 1 ≡ Some d) e g in cc

pub left_alone : (ps rest : List Datum) (v x : Datum) → ps ≡ v ∷ x ∷ [] → rest ≡ remove ps 1 → rest ≡ v ∷ []
left_alone ps rest v x e g = g ∙ ap (λ (ps : List Datum). remove ps 1) e

pub first_in : (ps : List Datum) (v : Datum) → ps ≡ v ∷ [] → 0 < length ps
first_in ps v e = rw e (omega arith)

pub first_is : (ps : List Datum) (v d : Datum) → ps ≡ v ∷ [] → slice_get ps 0 ≡ Some d → d ≡ v
first_is ps v d e g = let h : slice_get (v ∷ []) 0 ≡ Some d = subst (λ (ps : List Datum). slice_get ps 0 ≡ Some d) e g in cc

-- a name by its mark
pub by_mark : (at : Place) (n : Counts) (m : ℕ) (f : Form) → f ≡ symbol at (codes "t") m → m ≡ 20001 + n.names → f ≡ t n at
by_mark at n m f e h = e ∙ first-name at n m h

-- a name behind the forms that use it
pub one_use : (none call more : List Datum) (g : Datum) (x : Form) → none ≡ [] → call ≡ none ++ g ∷ [] → data_of more ≡ join (data_of call) (next x end) → data_of more ≡ next (form g) (next x end)
one_use none call more g x e f h = h ∙ ap (λ (ds : List Datum). join (data_of ds) (next x end)) (one_item none call g e f)

pub first_use : (none more : List Datum) (x : Form) → none ≡ [] → data_of more ≡ join (data_of none) (next x end) → data_of more ≡ next x end
first_use none more x e h = h ∙ ap (λ (ds : List Datum). join (data_of ds) (next x end)) e

let_same : (at : Place) (a b c d e f g h r : Form) → a ≡ b → c ≡ d → e ≡ f → g ≡ h → core_let at a c (core_if at e g r) ≡ core_let at b d (core_if at f h r)
let_same at a b c d e f g h r i j k l = cc

pub kept_means : (n after : Counts) (at : Place) (value name : Datum) (b : Bound) (k : Keyword) (ds : List Datum) → IsBound n at value b after → form name ≡ t n at
    → kept_row n at value k ds ≡ means after (open_of (open_form.Kept at b name k ds))
kept_means n after at value name b k ds g e =
    ap (means (with_names n 1)) (let_same at (t n at) (form b.binder) (form value) (form b.value) (t n at) (form b.name) (t n at) (form name) (core at (spelling k) (data_of ds)) (sym g.binder) (ap form (sym g.same)) (sym g.name) (sym e))
    ∙ ap (λ (m : Counts). means m (open_of (open_form.Kept at b name k ds))) (sym g.counted)

pub passed_means : (n after : Counts) (at : Place) (value receiver : Datum) (call : List Datum) (b : Bound) (ds : List Datum) → IsBound n at value b after → data_of call ≡ next (form receiver) (next (t n at) end)
    → passed_row n at value receiver ds ≡ means after (open_of (open_form.Kept at b (views.List at call) key.Cond ds))
passed_means n after at value receiver call b ds g e =
    let called : form (views.List at call) ≡ two at (form receiver) (t n at) = list_form (views.List at call) at call refl ∙ ap (listed at) e in
    ap (means (with_names n 1)) (let_same at (t n at) (form b.binder) (form value) (form b.value) (t n at) (form b.name) (two at (form receiver) (t n at)) (form (views.List at call)) (core at (codes "cond") (data_of ds)) (sym g.binder) (ap form (sym g.same)) (sym g.name) (sym called))
    ∙ ap (λ (m : Counts). means m (open_of (open_form.Kept at b (views.List at call) key.Cond ds))) (sym g.counted)

-- `case` ----------------------------------------------------------------------------------

-- `(eqv? key 'd)`
pub equal_test : (at : Place) (key d k q : Datum) (none behind nil parts more : List Datum) (r : Result Datum OutOfMemory) → none ≡ [] → behind ≡ none ++ d ∷ [] → nil ≡ [] → parts ≡ nil ++ k ∷ [] → k ≡ key
    → form q ≡ core at (codes "quote") (data_of behind) → more ≡ parts ++ q ∷ [] → IfOk r (λ f. form f ≡ core at (codes "eqv?") (data_of more)) → IfOk r (λ f. form f ≡ test_of at (form key) (form d))
equal_test at key d k q none behind nil parts more r e f g h same i j =
    subst (λ (fs : Forms). IfOk r (λ x. form x ≡ core at (codes "eqv?") fs)) (ap data_of (two_items nil parts more k q g h j)
    ∙ ap (λ (x : Form). next (form k) (next x end)) (i ∙ ap (λ (ds : List Datum). core at (codes "quote") (data_of ds)) (one_item none behind d e f))
    ∙ ap (λ (k : Datum). next (form k) (next (core at (codes "quote") (next (form d) end)) end)) same)

-- the new name with the key, by its mark
pub case_pair : (at : Place) (n : Counts) (m : ℕ) (key x : Datum) (none one pair : List Datum) → none ≡ [] → one ≡ key ∷ none → pair ≡ x ∷ one → form x ≡ symbol at (codes "t") m → m ≡ 20001 + n.names
    → data_of pair ≡ next (t n at) (next (form key) end)
case_pair at n m key x none one pair e f g h i =
    ap data_of (g ∙ ap (λ (ds : List Datum). x ∷ ds) (f ∙ ap (λ (ds : List Datum). key ∷ ds) e)) ∙ ap (λ (x : Form). next x (next (form key) end)) (by_mark at n m (form x) h i)

pub case_meant : (at : Place) (f k : Form) (m : ℕ) (n : Counts) (ps cs : Forms) → f ≡ core at (codes "let") (next (listed at (next (listed at ps) end)) (next (core at clauses_word (next (symbol at (codes "t") m) cs)) end))
    → ps ≡ next (t n at) (next k end) → m ≡ 20001 + n.names → f ≡ core_let at (t n at) k (core at clauses_word (next (t n at) cs))
case_meant at f k m n ps cs e g h = e ∙ ap (λ (ps : Forms). core at (codes "let") (next (listed at (next (listed at ps) end)) (next (core at clauses_word (next (symbol at (codes "t") m) cs)) end))) g
    ∙ ap (λ (x : Form). core_let at (t n at) k (core at clauses_word (next x cs))) (first-name at n m h)

-- what stands behind `let`
pub case_parts : (at : Place) (m : ℕ) (pair items none bindings nil begun behind empty one all : List Datum) (x body : Datum) (clauses : List Datum) → items ≡ pair → none ≡ [] → bindings ≡ none ++ views.List at items ∷ []
    → nil ≡ [] → begun ≡ nil ++ x ∷ [] → form x ≡ symbol at (codes "t") m → behind ≡ begun ++ clauses → form body ≡ core at clauses_word (data_of behind) → empty ≡ [] → one ≡ body ∷ empty → all ≡ views.List at bindings ∷ one
    → data_of all ≡ next (listed at (next (listed at (data_of pair)) end)) (next (core at clauses_word (next (symbol at (codes "t") m) (data_of clauses))) end)
case_parts at m pair items none bindings nil begun behind empty one all x body clauses e f g h i j k l o p q =
    let bound : form (views.List at bindings) ≡ listed at (next (listed at (data_of pair)) end) =
    list_form (views.List at bindings) at bindings refl ∙ ap (λ (ds : List Datum). listed at (data_of ds)) (one_item none bindings (views.List at items) f g)
    ∙ ap (λ (x : Form). listed at (next x end)) (list_form (views.List at items) at items refl ∙ ap (λ (ds : List Datum). listed at (data_of ds)) e) in
    let after : data_of behind ≡ next (symbol at (codes "t") m) (data_of clauses) =
    ap data_of (k ∙ ap (λ (ds : List Datum). ds ++ clauses) (one_item nil begun x h i)) ∙ ap (λ (x : Form). next x (data_of clauses)) j in
    ap data_of (q ∙ ap (λ (ds : List Datum). views.List at bindings ∷ ds) (p ∙ ap (λ (ds : List Datum). body ∷ ds) o))
    ∙ ap (λ (x : Form). next x (next (form body) end)) bound
    ∙ ap (λ (x : Form). next (listed at (next (listed at (data_of pair)) end)) (next x end)) (l ∙ ap (core at clauses_word) after)

-- Symbols ---------------------------------------------------------------------------------

symbol_form : (d : Datum) (at : Place) (x : List ℕ) (m : ℕ) → d ≡ datum.Sym at x m → form d ≡ symbol at x m
symbol_form d at x m is = ap form is ∙ form-Sym at x m

pub typed_symbol : (d : Datum) (at : Place) (x bs : List ℕ) (m : ℕ) (r : Bool) → d ≡ datum.Sym at x m → bs ≡ x → r ≡ has_type bs → r ≡ is_typed (form d)
typed_symbol d at x bs m r is e h = h ∙ ap has_type e ∙ ap is_typed (sym (symbol_form d at x m is))

pub bare_none : (d : Datum) (at : Place) (x bs : List ℕ) (m : ℕ) → d ≡ datum.Sym at x m → bs ≡ x → ◌≡◌ {A = Option Typed} None (typed bs) → ◌≡◌ {A = Option Form} None (bare_name (form d))
bare_none d at x bs m is e h = ap (named_with at m) (h ∙ ap typed e) ∙ ap bare_name (sym (symbol_form d at x m is))

pub bare_some : (d : Datum) (at : Place) (x bs name : List ℕ) (m : ℕ) (t : Typed) → d ≡ datum.Sym at x m → bs ≡ x → Some t ≡ typed bs → name ≡ t.name → Some (form (datum.Sym at name m)) ≡ bare_name (form d)
bare_some d at x bs name m t is e h same = ap Some (form-Sym at name m ∙ ap (λ (x : List ℕ). symbol at x m) same) ∙ (ap (named_with at m) (h ∙ ap typed e) ∙ ap bare_name (sym (symbol_form d at x m is)))

-- The parts of a `do` ---------------------------------------------------------------------

do_header : (first : Datum) (rest : List Datum) → items_in (form first) ≡ None → do_parts (data_of (first ∷ rest)) ≡ None
do_header first [] h = refl
do_header first (d ∷ bs) h = ap (λ (o : Option Forms). do_with o (items_in (form d)) (data_of bs)) h

pub do_headless : (all rest : List Datum) (first : Datum) → all ≡ first ∷ rest → items_in (form first) ≡ None → ◌≡◌ {A = Option Repeated} None (do_parts (data_of all))
do_headless all rest first e h = sym (ap (λ (ds : List Datum). do_parts (data_of ds)) e ∙ do_header first rest h)

do_two : (all rest body : List Datum) (first second : Datum) (o p : Option Forms) → all ≡ first ∷ rest → rest ≡ second ∷ body → items_in (form first) ≡ o → items_in (form second) ≡ p → do_parts (data_of all) ≡ do_with o p (data_of body)
do_two all rest body first second o p e f g h = ap (λ (ds : List Datum). do_parts (data_of ds)) (e ∙ ap (λ (ds : List Datum). first ∷ ds) f)
    ∙ ap (λ (o : Option Forms). do_with o (items_in (form second)) (data_of body)) g ∙ ap (λ (p : Option Forms). do_with o p (data_of body)) h

pub do_endless : (all rest body : List Datum) (first second : Datum) (xs : Forms) → all ≡ first ∷ rest → rest ≡ second ∷ body → items_in (form first) ≡ Some xs → items_in (form second) ≡ None → ◌≡◌ {A = Option Repeated} None (do_parts (data_of all))
do_endless all rest body first second xs e f g h = sym (do_two all rest body first second (Some xs) None e f g h)

pub do_untested : (all rest body ending : List Datum) (first second : Datum) (xs : Forms) → all ≡ first ∷ rest → rest ≡ second ∷ body → items_in (form first) ≡ Some xs → items_in (form second) ≡ Some (data_of ending) → ending ≡ []
    → ◌≡◌ {A = Option Repeated} None (do_parts (data_of all))
do_untested all rest body ending first second xs e f g h i = sym (do_two all rest body first second (Some xs) (Some (data_of ending)) e f g h ∙ ap (λ (ds : List Datum). do_with (Some xs) (Some (data_of ds)) (data_of body)) i)

pub do_found : (all rest body ending left header : List Datum) (first second test : Datum) → all ≡ first ∷ rest → rest ≡ second ∷ body → items_in (form first) ≡ Some (data_of header) → items_in (form second) ≡ Some (data_of ending)
    → ending ≡ test ∷ left → ◌≡◌ {A = Option Repeated} (Some (record { header = data_of header; test = form test; ending = data_of left; body = data_of body })) (do_parts (data_of all))
do_found all rest body ending left header first second test e f g h i = sym (do_two all rest body first second (Some (data_of header)) (Some (data_of ending)) e f g h
    ∙ ap (λ (ds : List Datum). do_with (Some (data_of header)) (Some (data_of ds)) (data_of body)) i)

-- A value with its name -------------------------------------------------------------------

pub bound_by : (at : Place) (n after : Counts) (m : ℕ) (value x binder name again : Datum) (none one two_of rest : List Datum) → none ≡ [] → one ≡ none ++ value ∷ [] → two_of ≡ one ++ x ∷ [] → slice_get two_of 1 ≡ Some name → rest ≡ remove two_of 1 → slice_get rest 0 ≡ Some again
    → form x ≡ symbol at (codes "t") m → form binder ≡ symbol at (codes "t") m → m ≡ 20001 + n.names → after ≡ with_names n 1 → IsBound n at value (record { binder = binder; name = name; value = again }) after
bound_by at n after m value x binder name again none one two_of rest e f g h i j k l first counted =
    let both : two_of ≡ value ∷ x ∷ [] = two_items none one two_of value x e f g in
    record {
      binder = by_mark at n m (form binder) l first;
      name = ap form (second_is two_of value x name both h) ∙ by_mark at n m (form x) k first;
      same = first_is rest value again (left_alone two_of rest value x both i) j;
      counted = counted;
    }

-- `(t e)`
pub pair_form : (at : Place) (n : Counts) (m : ℕ) (value x : Datum) (none one pair items : List Datum) → none ≡ [] → one ≡ value ∷ none → pair ≡ x ∷ one → form x ≡ symbol at (codes "t") m → m ≡ 20001 + n.names → items ≡ pair
    → form (views.List at items) ≡ two at (t n at) (form value)
pair_form at n m value x none one pair items e f g h i same = list_form (views.List at items) at items refl ∙ ap (λ (ds : List Datum). listed at (data_of ds)) same ∙ ap (listed at) (case_pair at n m value x none one pair e f g h i)

-- Steps -----------------------------------------------------------------------------------

pub step_said : (o : Option Datum) (s : Datum) (x : Form) → o ≡ Some s → Some (form s) ≡ step_or (option_map form o) x
step_said o s x e = ap (λ (o : Option Datum). step_or (option_map form o) x) (sym e)

pub step_unsaid : (o : Option Datum) (x : Form) (r : Result (Option Datum) OutOfMemory) → o ≡ None → IfOk r (λ d. option_map form d ≡ bare_name x) → IfOk r (λ d. option_map form d ≡ step_or (option_map form o) x)
step_unsaid o x r e h = subst (λ (o : Option Datum). IfOk r (λ d. option_map form d ≡ step_or (option_map form o) x)) (sym e) h

pub once_more_form : (at : Place) (body more : List Datum) (again : Datum) (r : Result Datum OutOfMemory) → more ≡ body ++ again ∷ [] → IfOk r (λ d. form d ≡ core at (codes "begin") (data_of more))
    → IfOk r (λ d. form d ≡ core_begin at (join (data_of body) (next (form again) end)))
once_more_form at body more again r e h = subst (λ (ds : Forms). IfOk r (λ d. form d ≡ core at (codes "begin") ds)) (pushed body more again (form again) e refl) h
