-- The helpers of the rows, case by case.
use Rattle.std.proofs.Common.{◌≡◌, ◌↔◌, ◌<◌, ◌≤◌, Bool, true, false, IsTrue, List, [], ◌∷◌, ◌++◌, length, remove, slice_get, slice_index_or, Some, refl, sym, ap, ◌∙◌, subst, append_assoc, append-nil, arith, rules}
use Rattle.std.specs.Prelude.{codes, ◌&&◌}
use Rattle.std.specs.List.{list_all}
use Rattle.scheme_data.specs.declared.datum.Place.{Place}
use Rattle.scheme_data.specs.declared.datum.Datum.{Datum}
use Rattle.scheme_data.specs.declared.datum.Datum as datum
use Rattle.scheme_data.specs.declared.datum.Datum.TheViews as views
use Rattle.scheme_data.specs.Forms.{Form, Forms, form, truth, unspecified, atom, symbol, listed, dotted, vector, end, next, join, form_says}
use Rattle.core_forms.specs.Scope.{sure}
use Rattle.core_forms.specs.Table.{Clause, no_clause, otherwise, otherwise_of, test, passes, acts, clause_of, clause_with, is_case_datum, are_case_data, is_last, are_clauses, same_as}
use Rattle.core_forms.specs.Code.{data_of}
use Rattle.core_forms.proofs.Views.{form-List, join_last}
use Rattle.derived_forms.specs.Clauses.{is_passing, may_stand, is_last_else, begins_clause, test_of, is_clause_of, is_clause, AreClauses, AreNoClauses}
use Rattle.core_forms.specs.declared.error.ExpandErr.TheVariants as fault

-- Lists -----------------------------------------------------------------------------------

pub not_empty : {A : Type 0} (b : Bool) (xs : List A) → b ≡ false → (IsTrue b ↔ (xs ≡ [])) → xs ≡ [] → ⊥
not_empty b xs e h g = let t : b ≡ true = h.1 g in absurd (cc)

pub taken : {A : Type 0} (xs : List A) (x : A) (ys : List A) → slice_get xs 0 ≡ Some x → ys ≡ remove xs 0 → xs ≡ x ∷ ys
taken [] x ys g r = absurd (cc)
taken (y ∷ xs) x ys g r = let s : ys ≡ xs = r in cc

pub last_is : (b : Bool) (ds : List Datum) → (IsTrue b ↔ (ds ≡ [])) → b ≡ is_last (data_of ds)
last_is true [] h = refl
last_is true (d ∷ ds) h = let e : d ∷ ds ≡ [] = h.0 refl in absurd (cc)
last_is false [] h = let e : false ≡ true = h.1 refl in absurd (cc)
last_is false (d ∷ ds) h = refl

-- Data ------------------------------------------------------------------------------------

pub form-Bool : (at : Place) (t : Bool) → form (datum.Bool at t) ≡ atom at (truth t)
form-Bool at t = search (rules, datum.the_lemmas)

pub form-Unspec : (at : Place) → form (datum.Unspec at) ≡ atom at unspecified
form-Unspec at = search (rules, datum.the_lemmas)

pub list_form : (d : Datum) (at : Place) (items : List Datum) → d ≡ views.List at items → form d ≡ listed at (data_of items)
list_form d at items e = ap form e ∙ form-List at items

pub list_parts : (d : Datum) (at : Place) (items : List Datum) (first : Datum) (others : List Datum) → d ≡ views.List at items → items ≡ first ∷ others → form d ≡ listed at (next (form first) (data_of others))
list_parts d at items first others e h = list_form d at items e ∙ ap (λ (ds : List Datum). listed at (data_of ds)) h

-- Clauses of `cond` -----------------------------------------------------------------------

pub no_parts : (d : Datum) (at : Place) (items : List Datum) → d ≡ views.List at items → items ≡ [] → no_clause ≡ clause_of (form d)
no_parts d at items e h = subst (λ (f : Form). no_clause ≡ clause_of f) (sym (list_form d at items e ∙ ap (λ (ds : List Datum). listed at (data_of ds)) h)) refl

of_else : (at : Place) (e : Form) (es : Forms) → form_says e (codes "else") ≡ true → clause_of (listed at (next e es)) ≡ otherwise_of es
of_else at e es s = rw s refl

of_test : (at : Place) (e : Form) (es : Forms) → form_says e (codes "else") ≡ false → clause_of (listed at (next e es)) ≡ clause_with e es
of_test at e es s = rw s refl

otherwise_some : (ds : List Datum) → (ds ≡ [] → ⊥) → otherwise (data_of ds) ≡ otherwise_of (data_of ds)
otherwise_some [] h = absurd (h refl)
otherwise_some (d ∷ ds) h = refl

pub else_alone : (f : Form) (at : Place) (first : Datum) (ds : List Datum) → f ≡ listed at (next (form first) (data_of ds)) → form_says (form first) (codes "else") ≡ true → ds ≡ [] → no_clause ≡ clause_of f
else_alone f at first ds e s h = ap (λ (ds : List Datum). otherwise_of (data_of ds)) (sym h) ∙ sym (of_else at (form first) (data_of ds) s) ∙ ap clause_of (sym e)

pub else_with : (f : Form) (at : Place) (first : Datum) (ds : List Datum) → f ≡ listed at (next (form first) (data_of ds)) → form_says (form first) (codes "else") ≡ true → (ds ≡ [] → ⊥) → otherwise (data_of ds) ≡ clause_of f
else_with f at first ds e s h = otherwise_some ds h ∙ sym (of_else at (form first) (data_of ds) s) ∙ ap clause_of (sym e)

pub test_with : (f : Form) (at : Place) (first : Datum) (ds : List Datum) (c : Clause) → f ≡ listed at (next (form first) (data_of ds)) → form_says (form first) (codes "else") ≡ false → c ≡ clause_with (form first) (data_of ds) → c ≡ clause_of f
test_with f at first ds c e s h = h ∙ sym (of_test at (form first) (data_of ds) s) ∙ ap clause_of (sym e)

pub test_alone : (e : Form) (ds : List Datum) → ds ≡ [] → test e ≡ clause_with e (data_of ds)
test_alone e ds h = subst (λ (ds : List Datum). test e ≡ clause_with e (data_of ds)) (sym h) refl

pub acting : (e : Form) (ds : List Datum) → (ds ≡ [] → ⊥) → is_passing (data_of ds) ≡ false → acts e (data_of ds) ≡ clause_with e (data_of ds)
acting e [] h p = absurd (h refl)
acting e (a ∷ []) h p = refl
acting e (a ∷ b ∷ []) h p = rw p refl
acting e (a ∷ b ∷ d ∷ ds) h p = refl

passing_two : (e : Form) (a b g : Datum) (ds : List Datum) → is_passing (data_of (a ∷ b ∷ [])) ≡ true → a ∷ b ∷ [] ≡ ds ++ g ∷ [] → passes e (form g) ≡ clause_with e (data_of (a ∷ b ∷ []))
passing_two e a b g [] p h = absurd (cc)
passing_two e a b g (c ∷ []) p h = let same : b ≡ g = cc in rw (p, same) refl
passing_two e a b g (c ∷ d ∷ ds) p h = let none : [] ≡ ds ++ g ∷ [] = cc in absurd (not_none ds g none)
  where
    not_none : (ds : List Datum) (g : Datum) → [] ≡ ds ++ g ∷ [] → ⊥
    not_none [] g h = absurd (cc)
    not_none (d ∷ ds) g h = absurd (cc)

pub passing : (e : Form) (items : List Datum) (g : Datum) (ds : List Datum) → is_passing (data_of items) ≡ true → items ≡ ds ++ g ∷ [] → passes e (form g) ≡ clause_with e (data_of items)
passing e [] g ds p h = absurd (cc)
passing e (a ∷ []) g ds p h = absurd (cc)
passing e (a ∷ b ∷ []) g ds p h = passing_two e a b g ds p h
passing e (a ∷ b ∷ d ∷ es) g ds p h = absurd (cc)

pub passing_none : (items : List Datum) → is_passing (data_of items) ≡ true → items ≡ [] → ⊥
passing_none [] p h = absurd (cc)
passing_none (a ∷ ds) p h = absurd (cc)

pub passing_long : (items : List Datum) → (length items ≡ 2 → ⊥) → false ≡ is_passing (data_of items)
passing_long [] h = refl
passing_long (a ∷ []) h = refl
passing_long (a ∷ b ∷ []) h = absurd (h refl)
passing_long (a ∷ b ∷ d ∷ ds) h = refl

pub passing_head : (items : List Datum) (a : Datum) (r : Bool) → length items ≡ 2 → a ≡ slice_index_or items 0 a → r ≡ form_says (form a) (codes "=>") → r ≡ is_passing (data_of items)
passing_head [] a r h g e = absurd (cc)
passing_head (b ∷ []) a r h g e = absurd (omega arith)
passing_head (b ∷ d ∷ []) a r h g e = let same : a ≡ b = g in e ∙ ap (λ (a : Datum). form_says (form a) (codes "=>")) same
passing_head (b ∷ d ∷ x ∷ ds) a r h g e = absurd (omega arith)

-- Clauses of `case` -----------------------------------------------------------------------

pub listed_datum : (d : Datum) (at : Place) (items : List Datum) (b : Bool) → d ≡ views.List at items → (IsTrue b ↔ (items ≡ [])) → b ≡ is_case_datum (form d)
listed_datum d at [] b e h = h.1 refl ∙ ap is_case_datum (sym (list_form d at [] e))
listed_datum d at (x ∷ xs) true e h = let none : x ∷ xs ≡ [] = h.0 refl in absurd (cc)
listed_datum d at (x ∷ xs) false e h = ap is_case_datum (sym (list_form d at (x ∷ xs) e))

pub all_may_stand : (ds : List Datum) → list_all may_stand ds ≡ are_case_data (data_of ds)
all_may_stand [] = refl
all_may_stand (d ∷ ds) = ap (λ (b : Bool). is_case_datum (form d) && b) (all_may_stand ds)

pub of_list : (d : Datum) (at : Place) (items : List Datum) (last r : Bool) → d ≡ views.List at items → r ≡ is_clause_of (data_of items) last → r ≡ is_clause (form d) last
of_list d at items last r e h = h ∙ ap (λ (f : Form). is_clause f last) (sym (list_form d at items e))

pub of_none : (ds : List Datum) (last : Bool) → length ds < 2 → false ≡ is_clause_of (data_of ds) last
of_none [] last h = refl
of_none (d ∷ []) last h = refl
of_none (d ∷ e ∷ ds) last h = absurd (omega arith)

pub of_head : (xs : List Datum) (d : Datum) (last r : Bool) → 2 ≤ length xs → d ≡ slice_index_or xs 0 d → r ≡ begins_clause (form d) last → r ≡ is_clause_of (data_of xs) last
of_head [] d last r h g e = absurd (omega arith)
of_head (x ∷ []) d last r h g e = absurd (omega arith)
of_head (x ∷ y ∷ ys) d last r h g e = e ∙ ap (λ (d : Datum). begins_clause (form d) last) g

pub of_data : (d : Datum) (at : Place) (ds : List Datum) (last r : Bool) → d ≡ views.List at ds → r ≡ list_all may_stand ds → r ≡ begins_clause (form d) last
of_data d at ds last r e k = k ∙ all_may_stand ds ∙ ap (λ (f : Form). begins_clause f last) (sym (list_form d at ds e))

and_false : (b : Bool) → (b && false) ≡ false
and_false true = refl
and_false false = refl

else_next : (d : Form) (cs : Forms) → (form_says d (codes "else") && is_last cs) ≡ (is_last_else d (is_last cs) && are_clauses cs)
else_next d end = refl
else_next d (next c cs) = and_false (form_says d (codes "else"))

are_next : (f : Form) (cs : Forms) → are_clauses (next f cs) ≡ (is_clause f (is_last cs) && are_clauses cs)
are_next (atom at a) cs = refl
are_next (symbol at x m) cs = refl
are_next (dotted at ds d) cs = refl
are_next (vector at ds) cs = refl
are_next (listed at end) cs = refl
are_next (listed at (next (atom p a) end)) cs = refl
are_next (listed at (next (symbol p x m) end)) cs = refl
are_next (listed at (next (listed p ds) end)) cs = refl
are_next (listed at (next (dotted p ds d) end)) cs = refl
are_next (listed at (next (vector p ds) end)) cs = refl
are_next (listed at (next (listed p ds) (next e es))) cs = refl
are_next (listed at (next (atom p a) (next e es))) cs = else_next (atom p a) cs
are_next (listed at (next (symbol p x m) (next e es))) cs = else_next (symbol p x m) cs
are_next (listed at (next (dotted p ds d) (next e es))) cs = else_next (dotted p ds d) cs
are_next (listed at (next (vector p ds) (next e es))) cs = else_next (vector p ds) cs

-- a clause behind which these follow
pub clause_next : (all : List Datum) (c : Datum) (rest : List Datum) (last b : Bool) → all ≡ c ∷ rest → (IsTrue last ↔ (rest ≡ [])) → b ≡ is_clause (form c) last → are_clauses (data_of all) ≡ (b && are_clauses (data_of rest))
clause_next all c rest last b e h g = ap (λ (all : List Datum). are_clauses (data_of all)) e ∙ are_next (form c) (data_of rest)
    ∙ ap (λ (b : Bool). b && are_clauses (data_of rest)) (ap (is_clause (form c)) (sym (last_is last rest h)) ∙ sym g)

pub none_are : (whole all : List Datum) (c : Datum) (rest : List Datum) (last : Bool) (at : Place) → are_clauses (data_of whole) ≡ are_clauses (data_of all) → all ≡ c ∷ rest → (IsTrue last ↔ (rest ≡ [])) → false ≡ is_clause (form c) last
    → AreNoClauses whole at (fault.Form at)
none_are whole all c rest last at w e h g = record { are = w ∙ clause_next all c rest last false e h g; there = refl }

pub pushed : {A : Type 0} (xs more ys rest whole : List A) (x : A) → more ≡ xs ++ x ∷ [] → ys ≡ x ∷ rest → xs ++ ys ≡ whole → more ++ rest ≡ whole
pushed xs more ys rest whole x e f h = rw (e, append_assoc) (ap (λ ys. xs ++ ys) (sym f) ∙ h)

pub all_are : (whole items all : List Datum) → items ++ all ≡ whole → are_clauses (data_of whole) ≡ are_clauses (data_of all) → all ≡ [] → AreClauses whole items
all_are whole items all h g e = record { are = g ∙ ap (λ (all : List Datum). are_clauses (data_of all)) e; same = sym (append-nil items) ∙ ap (λ (all : List Datum). items ++ all) (sym e) ∙ h }

-- Tests -----------------------------------------------------------------------------------

join_end : (ds : Forms) → join ds end ≡ ds
join_end end = refl
join_end (next d ds) = ap (next d) (join_end ds)

pub tests_begin : (at : Place) (k : Form) (tests news choices all : List Datum) (w : Datum) → news ≡ [] → tests ≡ news ++ w ∷ [] → form w ≡ sure at (codes "or") → choices ≡ all
    → join (data_of tests) (same_as at k (data_of choices)) ≡ next (sure at (codes "or")) (same_as at k (data_of all))
tests_begin at k tests news choices all w e f g h = rw (f, e, h) (ap (λ (w : Form). next w (same_as at k (data_of all))) g)

pub tests_go_on : (at : Place) (k : Form) (tests more choices rest : List Datum) (d x : Datum) (whole : Forms) → choices ≡ d ∷ rest → more ≡ tests ++ x ∷ [] → form x ≡ test_of at k (form d)
    → join (data_of tests) (same_as at k (data_of choices)) ≡ whole → join (data_of more) (same_as at k (data_of rest)) ≡ whole
tests_go_on at k tests more choices rest d x whole e f g h =
    ap (λ (more : List Datum). join (data_of more) (same_as at k (data_of rest))) f ∙ join_last tests x (same_as at k (data_of rest))
    ∙ ap (λ (y : Form). join (data_of tests) (next y (same_as at k (data_of rest)))) g
    ∙ sym (ap (λ (cs : List Datum). join (data_of tests) (same_as at k (data_of cs))) e) ∙ h

pub tests_end : (at : Place) (k : Form) (tests choices : List Datum) (whole : Forms) → choices ≡ [] → join (data_of tests) (same_as at k (data_of choices)) ≡ whole → form (views.List at tests) ≡ listed at whole
tests_end at k tests choices whole e h = form-List at tests ∙ ap (listed at) (sym (join_end (data_of tests)) ∙ sym (ap (λ (cs : List Datum). join (data_of tests) (same_as at k (data_of cs))) e) ∙ h)

pub same_items : {b : Bool} (xs ys : List Datum) → xs ≡ ys → is_passing (data_of xs) ≡ b → is_passing (data_of ys) ≡ b
same_items {b} xs ys e h = subst (λ (ds : List Datum). is_passing (data_of ds) ≡ b) e h
