-- Loops, form by form.
use Rattle.std.proofs.Common.{◌≡◌, ℕ, ◌+◌, false, if◌then◌else◌, List, [], ◌∷◌, ◌++◌, Option, None, Some, refl, sym, ap, ◌∙◌, arith}
use Rattle.std.specs.Prelude.{codes}
use Rattle.std.specs.Option.{option_map, MatchOption}
use Rattle.scheme_data.specs.declared.datum.Place.{Place}
use Rattle.scheme_data.specs.declared.datum.Datum.{Datum}
use Rattle.scheme_data.specs.Forms.{Form, Forms, symbol, end, next, join, form}
use Rattle.core_forms.specs.Names.{new_name, new_names, with_names, pairs_of}
use Rattle.core_forms.specs.Table.{two, core_begin, results, count}
use Rattle.core_forms.specs.Code.{data_of, items_in}
use Rattle.core_forms.specs.declared.counting.Counts.{Counts}
use Rattle.derived_forms.specs.LoopViews.{is_typed, NamedLet, let_with, let_parts, Stepped, step_or, with_step, variable_of, variable_from, variable_in, Columns, columns, onto_columns, columns_of}

-- Data, one by one ----------------------------------------------------------------------

pub data-more : (xs : List Datum) (d : Datum) → data_of (xs ++ d ∷ []) ≡ join (data_of xs) (next (form d) end)
data-more [] d = refl
data-more (x ∷ xs) d = ap (next (form x)) (data-more xs d)

pub join-apart : (a b c : Forms) → join (join a b) c ≡ join a (join b c)
join-apart end b c = refl
join-apart (next x a) b c = ap (next x) (join-apart a b c)

pub join-none : (a : Forms) → join a end ≡ a
join-none end = refl
join-none (next x a) = ap (next x) (join-none a)

-- this in front of the rest, where the rest begins with x
pub join-more : (new old : Forms) (x : Form) (rest : Forms) → new ≡ join old (next x end) → join new rest ≡ join old (next x rest)
join-more new old x rest e = ap (λ a. join a rest) e ∙ join-apart old (next x end) rest

pub pushed : (old new : List Datum) (d : Datum) (x : Form) → new ≡ old ++ d ∷ [] → form d ≡ x → data_of new ≡ join (data_of old) (next x end)
pushed old new d x e f = ap data_of e ∙ (data-more old d ∙ ap (λ x. join (data_of old) (next x end)) f)

-- New names -----------------------------------------------------------------------------

pub first-name : (at : Place) (n : Counts) (m : ℕ) → m ≡ 20001 + n.names → symbol at (codes "t") m ≡ new_name at n 0
first-name at n m e = ap (λ m. symbol at (codes "t") m) (omega arith)

names-behind : (at : Place) (n : Counts) (j k : ℕ) (ds : Forms) → new_names at (with_names n j) k ds ≡ new_names at n (j + k) ds
names-behind at n j k end = refl
names-behind at n j k (next d ds) =
    let here : 20001 + ((n.names + j) + k) ≡ 20001 + (n.names + (j + k)) = omega arith in
    let behind : j + (k + 1) ≡ (j + k) + 1 = omega arith in
    ap (λ m. next (symbol at (codes "t") m) (new_names at (with_names n j) (k + 1) ds)) here
    ∙ ap (λ ds. next (new_name at n (j + k)) ds) (names-behind at n j (k + 1) ds ∙ ap (λ i. new_names at n i ds) behind)

pub names-next : (at : Place) (n m : Counts) (ds : Forms) → m ≡ with_names n 1 → new_names at m 0 ds ≡ new_names at n 1 ds
names-next at n m ds e = ap (λ m. new_names at m 0 ds) e ∙ names-behind at n 1 0 ds

pub named-step : (at : Place) (n m : Counts) (d : Form) (ds old new whole : Forms) → new ≡ join old (next (new_name at n 0) end) → m ≡ with_names n 1
    → join old (new_names at n 0 (next d ds)) ≡ whole → join new (new_names at m 0 ds) ≡ whole
named-step at n m d ds old new whole e f h =
    join-more new old (new_name at n 0) (new_names at m 0 ds) e ∙ (ap (λ ts. join old (next (new_name at n 0) ts)) (names-next at n m ds f) ∙ h)

pub bound-step : (at : Place) (n m : Counts) (d : Form) (ds old new whole : Forms) → new ≡ join old (next (two at (new_name at n 0) d) end) → m ≡ with_names n 1
    → join old (pairs_of at (new_names at n 0 (next d ds)) (next d ds)) ≡ whole → join new (pairs_of at (new_names at m 0 ds) ds) ≡ whole
bound-step at n m d ds old new whole e f h =
    join-more new old (two at (new_name at n 0) d) (pairs_of at (new_names at m 0 ds) ds) e
    ∙ (ap (λ ts. join old (next (two at (new_name at n 0) d) (pairs_of at ts ds))) (names-next at n m ds f) ∙ h)

with-names-of : (n : Counts) (j k : ℕ) → j ≡ k → ◌≡◌ {A = Counts} (record { expansions = n.expansions; filled = n.filled; names = j }) (record { expansions = n.expansions; filled = n.filled; names = k })
with-names-of n j k e = ap {B = Counts} (λ k. record { expansions = n.expansions; filled = n.filled; names = k }) e

pub with-none : (n : Counts) → with_names n 0 ≡ n
with-none n = with-names-of n (n.names + 0) n.names (omega arith)

pub with-more : (n m : Counts) (k : ℕ) → m ≡ with_names n 1 → with_names m k ≡ with_names n (1 + k)
with-more n m k e = ap (λ m. with_names m k) e ∙ with-names-of n ((n.names + 1) + k) (n.names + (1 + k)) (omega arith)

pub counted-step : (n m : Counts) (d : Form) (ds : Forms) (whole : Counts) → m ≡ with_names n 1 → with_names n (count (next d ds)) ≡ whole → with_names m (count ds) ≡ whole
counted-step n m d ds whole e h = with-more n m (count ds) e ∙ h

-- Named `let` ---------------------------------------------------------------------------

has-body : (x : Form) (xs : Forms) (rest : List Datum) → is_typed x ≡ false → (rest ≡ [] → ⊥)
    → ◌≡◌ {A = Option NamedLet} (Some (record { name = x; bindings = xs; body = data_of rest })) (let_with x (Some xs) (data_of rest))
has-body x xs [] f full = absurd (full refl)
has-body x xs (b ∷ bs) f full = ap {B = Option NamedLet} (λ t. if t then None else Some (record { name = x; bindings = xs; body = next (form b) (data_of bs) })) (sym f)

pub let-found : (forms behind rest : List Datum) (name second : Datum) (xs : Forms) → forms ≡ name ∷ behind → behind ≡ second ∷ rest → items_in (form second) ≡ Some xs
    → (rest ≡ [] → ⊥) → is_typed (form name) ≡ false → ◌≡◌ {A = Option NamedLet} (Some (record { name = form name; bindings = xs; body = data_of rest })) (let_parts (data_of forms))
let-found forms behind rest name second xs e f g full t =
    has-body (form name) xs rest t full
    ∙ (ap (λ o. let_with (form name) o (data_of rest)) (sym g) ∙ (ap (λ bs. let_parts (next (form name) (data_of bs))) (sym f) ∙ ap (λ ds. let_parts (data_of ds)) (sym e)))

-- Columns -------------------------------------------------------------------------------

abbrev pub joined : Columns → Columns → Columns
joined a b = columns (join a.names b.names) (join a.values b.values) (join a.steps b.steps)

-- these variables in front of the rest
abbrev pub in_front : Columns → Option Columns → Option Columns
in_front a None = None
in_front a (Some b) = Some (joined a b)

columns-same : (a b c d e f : Forms) → a ≡ d → b ≡ e → c ≡ f → columns a b c ≡ columns d e f
columns-same a b c d e f p q r = ap (λ a. columns a b c) p ∙ (ap (λ b. columns d b c) q ∙ ap (λ c. columns d e c) r)

in-front-more : (old new : Columns) (v : Stepped) (o : Option Columns) → new.names ≡ join old.names (next v.name end) → new.values ≡ join old.values (next v.value end) → new.steps ≡ join old.steps (next v.step end)
    → in_front new o ≡ in_front old (onto_columns (Some v) o)
in-front-more old new v None p q r = refl
in-front-more old new v (Some c) p q r =
    ap Some (columns-same (join new.names c.names) (join new.values c.values) (join new.steps c.steps)
    (join old.names (next v.name c.names)) (join old.values (next v.value c.values)) (join old.steps (next v.step c.steps))
    (join-more new.names old.names v.name c.names p) (join-more new.values old.values v.value c.values q) (join-more new.steps old.steps v.step c.steps r))

pub columns-step : (old new : Columns) (before after : List Datum) (d : Datum) (v : Stepped) (whole : Option Columns) → before ≡ d ∷ after → Some v ≡ variable_of (form d)
    → new.names ≡ join old.names (next v.name end) → new.values ≡ join old.values (next v.value end) → new.steps ≡ join old.steps (next v.step end)
    → in_front old (columns_of (data_of before)) ≡ whole → in_front new (columns_of (data_of after)) ≡ whole
columns-step old new before after d v whole e f p q r h =
    in-front-more old new v (columns_of (data_of after)) p q r
    ∙ (ap (λ o. in_front old (onto_columns o (columns_of (data_of after)))) f ∙ (ap (λ ds. in_front old (columns_of (data_of ds))) (sym e) ∙ h))

pub columns-end : (old : Columns) (before : List Datum) (whole : Option Columns) → before ≡ [] → in_front old (columns_of (data_of before)) ≡ whole → Some old ≡ whole
columns-end old before whole e h =
    ap Some (columns-same old.names old.values old.steps (join old.names end) (join old.values end) (join old.steps end) (sym (join-none old.names)) (sym (join-none old.values)) (sym (join-none old.steps)))
    ∙ (ap (λ ds. in_front old (columns_of (data_of ds))) (sym e) ∙ h)

-- The end of a `do` ---------------------------------------------------------------------

pub some-results : (at : Place) (ds : List Datum) → (ds ≡ [] → ⊥) → core_begin at (data_of ds) ≡ results at (data_of ds)
some-results at [] full = absurd (full refl)
some-results at (d ∷ ds) full = refl

-- One variable --------------------------------------------------------------------------

two-or-three : (x i : Datum) (step : Option Datum) (old rest : List Datum) → MatchOption step ((old ≡ []) × (rest ≡ [])) (λ s. old ≡ s ∷ rest) → rest ≡ []
    → variable_in (next (form x) (next (form i) (data_of old))) ≡ with_step (form x) (form i) (step_or (option_map form step) (form x))
two-or-three x i None old rest h e = ap (λ ds. variable_in (next (form x) (next (form i) (data_of ds)))) h.0
two-or-three x i (Some s) old rest h e = ap (λ ds. variable_in (next (form x) (next (form i) (data_of ds)))) (h ∙ ap (λ ds. s ∷ ds) e)

too-many : (x i : Datum) (step : Option Datum) (old rest : List Datum) → MatchOption step ((old ≡ []) × (rest ≡ [])) (λ s. old ≡ s ∷ rest) → (rest ≡ [] → ⊥)
    → None ≡ variable_in (next (form x) (next (form i) (data_of old)))
too-many x i None old rest h full = absurd (full h.1)
too-many x i (Some s) old [] h full = absurd (full refl)
too-many x i (Some s) old (d ∷ ds) h full = ap (λ ds. variable_in (next (form x) (next (form i) (data_of ds)))) (sym h)

items-are : (variable : Datum) (all behind rest items : List Datum) (x i : Datum) → items_in (form variable) ≡ Some (data_of items) → all ≡ items → all ≡ x ∷ behind → behind ≡ i ∷ rest
    → variable_of (form variable) ≡ variable_in (next (form x) (next (form i) (data_of rest)))
items-are variable all behind rest items x i e f g h =
    ap variable_from e ∙ ap (λ ds. variable_in (data_of ds)) (sym f ∙ (g ∙ ap (λ ds. x ∷ ds) h))

pub variable-found : (variable : Datum) (all behind rest left items : List Datum) (x i : Datum) (step : Option Datum) → items_in (form variable) ≡ Some (data_of items) → all ≡ items → all ≡ x ∷ behind → behind ≡ i ∷ rest
    → MatchOption step ((rest ≡ []) × (left ≡ [])) (λ s. rest ≡ s ∷ left) → left ≡ [] → variable_of (form variable) ≡ with_step (form x) (form i) (step_or (option_map form step) (form x))
variable-found variable all behind rest left items x i step e f g h m k = items-are variable all behind rest items x i e f g h ∙ two-or-three x i step rest left m k

pub variable-long : (variable : Datum) (all behind rest left items : List Datum) (x i : Datum) (step : Option Datum) → items_in (form variable) ≡ Some (data_of items) → all ≡ items → all ≡ x ∷ behind → behind ≡ i ∷ rest
    → MatchOption step ((rest ≡ []) × (left ≡ [])) (λ s. rest ≡ s ∷ left) → (left ≡ [] → ⊥) → None ≡ variable_of (form variable)
variable-long variable all behind rest left items x i step e f g h m full = too-many x i step rest left m full ∙ sym (items-are variable all behind rest items x i e f g h)
