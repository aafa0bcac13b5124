-- What a `do` means.
use Rattle.std.proofs.Common.{◌≡◌, ℕ, ◌+◌, Bool, true, false, not, ◌&&◌, if◌then◌else◌, is_some, List, Option, None, Some, refl, sym, ap, ◌∙◌}
use Rattle.scheme_data.specs.declared.datum.Place.{Place}
use Rattle.scheme_data.specs.Forms.{Form, Forms, atom, symbol, listed, dotted, vector, end, next, join}
use Rattle.scheme_data.specs.TypedNames.{Typed, typed, Split, split, of_split, has_type, is_type_word}
use Rattle.scheme_data.specs.Symbols.{begins_as_symbol}
use Rattle.core_forms.specs.Names.{new_name, new_names, with_names, binder_with, binder_of, onto_binders, binders_of, firsts, seconds}
use Rattle.core_forms.specs.Table.{are_variables, name_of, untyped, steps_of, core_if, core_begin, core_loop, results, count, Row, means, wrong, derived}
use Rattle.core_forms.specs.declared.core_form.Binder.{Binder}
use Rattle.core_forms.specs.declared.counting.Counts.{Counts}
use Rattle.core_forms.specs.declared.words.Keyword.TheVariants as key
use Rattle.derived_forms.specs.LoopViews.{named_with, bare_name, Stepped, with_step, Columns, columns, onto_columns, columns_of, Repeated, do_parts}
use Rattle.derived_forms.proofs.LoopForms.{names-next}
use Rattle.derived_forms.proofs.NamedLets.{loop-same, means-same}

-- Names without types -------------------------------------------------------------------

bare-if : (at : Place) (z : List ℕ) (m : ℕ) (ty : Option (List ℕ)) (b : Bool) (x : Form) → Some x ≡ named_with at m (if b then Some (record { name = z; ty = ty }) else None) → x ≡ symbol at z m
bare-if at z m ty true x h = cc
bare-if at z m ty false x h = absurd (cc)

bare-split : (at : Place) (y : List ℕ) (m : ℕ) (s : Option Split) (x : Form) → Some x ≡ named_with at m (of_split y s) → x ≡ symbol at (name_of y s) m
bare-split at y m None x h = cc
bare-split at y m (Some s) x h = bare-if at s.before m (Some s.behind) (begins_as_symbol s.before && is_type_word s.behind) x h

bare-some : (d x : Form) → Some x ≡ bare_name d → x ≡ untyped d
bare-some (atom p a) x h = absurd (cc)
bare-some (symbol p y m) x h = bare-split p y m (split y) x h
bare-some (listed p ds) x h = absurd (cc)
bare-some (dotted p ds e) x h = absurd (cc)
bare-some (vector p ds) x h = absurd (cc)

unnamed : (at : Place) (m : ℕ) (b : Bool) (g : Option Typed) → None ≡ named_with at m g → (if b then None else binder_with at m g) ≡ None
unnamed at m true g h = refl
unnamed at m false None h = refl
unnamed at m false (Some t) h = absurd (cc)

bare-none : (d : Form) → None ≡ bare_name d → binder_of true d ≡ None
bare-none (atom p a) h = refl
bare-none (symbol p y m) h = unnamed p m (has_type y && not true) (typed y) h
bare-none (listed p ds) h = refl
bare-none (dotted p ds e) h = refl
bare-none (vector p ds) h = refl

-- Columns -------------------------------------------------------------------------------

pub record AreColumns (ds : Forms) (c : Columns) : Type 0 where
  pub variables : are_variables ds ≡ true
  pub names_are : firsts ds ≡ c.names
  pub values_are : seconds ds ≡ c.values
  pub steps_are : steps_of ds ≡ c.steps
  pub as_many : count c.values ≡ count ds
  pub new_names_are : (at : Place) (n : Counts) (k : ℕ) → new_names at n k c.values ≡ new_names at n k ds

columns-more : (ds : Forms) (v : Stepped) (o : Option Columns) (c : Columns) → Some c ≡ onto_columns (Some v) o → ((b : Columns) → Some b ≡ o → AreColumns ds b)
    → (are_variables ds ≡ true) × (next v.name (firsts ds) ≡ c.names) × (next v.value (seconds ds) ≡ c.values) × (next v.step (steps_of ds) ≡ c.steps) × (count c.values ≡ 1 + count ds)
    × ((at : Place) (n : Counts) (k : ℕ) → new_names at n k c.values ≡ next (new_name at n k) (new_names at n (k + 1) ds))
columns-more ds v None c h further = absurd (cc)
columns-more ds v (Some b) c h further =
    let r = further b refl in
    let e : c ≡ columns (next v.name b.names) (next v.value b.values) (next v.step b.steps) = cc in (
      r.variables,
      ap (next v.name) r.names_are ∙ sym (ap (λ c. c.names) e),
      ap (next v.value) r.values_are ∙ sym (ap (λ c. c.values) e),
      ap (next v.step) r.steps_are ∙ sym (ap (λ c. c.steps) e),
      ap (λ c. count c.values) e ∙ ap (λ k. 1 + k) r.as_many,
      λ at n k. ap (λ c. new_names at n k c.values) e ∙ ap (next (new_name at n k)) (r.new_names_are at n (k + 1)),
    )

columns-bare : (ds : Forms) (x i : Form) (s : Option Form) (o : Option Columns) (c : Columns) → s ≡ bare_name x → Some c ≡ onto_columns (with_step x i s) o → ((b : Columns) → Some b ≡ o → AreColumns ds b)
    → (are_variables ds ≡ true) × (next x (firsts ds) ≡ c.names) × (next i (seconds ds) ≡ c.values) × (next (untyped x) (steps_of ds) ≡ c.steps) × (count c.values ≡ 1 + count ds)
    × ((at : Place) (n : Counts) (k : ℕ) → new_names at n k c.values ≡ next (new_name at n k) (new_names at n (k + 1) ds))
columns-bare ds x i None o c e h further = absurd (cc)
columns-bare ds x i (Some s) o c e h further =
    let r = columns-more ds (record { name = x; value = i; step = s }) o c h further in
    (r.0, r.1, r.2, ap (λ s. next s (steps_of ds)) (sym (bare-some x s e)) ∙ r.3, r.4, r.5)

pub columns-are : (ds : Forms) (c : Columns) → Some c ≡ columns_of ds → AreColumns ds c
columns-are end c h =
    let e : c ≡ columns end end end = cc in
    record { variables = refl; names_are = sym (ap (λ c. c.names) e); values_are = sym (ap (λ c. c.values) e); steps_are = sym (ap (λ c. c.steps) e); as_many = ap (λ c. count c.values) e; new_names_are = λ at n k. ap (λ c. new_names at n k c.values) e }
columns-are (next (atom p a) ds) c h = absurd (cc)
columns-are (next (symbol p x m) ds) c h = absurd (cc)
columns-are (next (dotted p xs d) ds) c h = absurd (cc)
columns-are (next (vector p xs) ds) c h = absurd (cc)
columns-are (next (listed p end) ds) c h = absurd (cc)
columns-are (next (listed p (next x end)) ds) c h = absurd (cc)
columns-are (next (listed p (next x (next i end))) ds) c h =
    let r = columns-bare ds x i (bare_name x) (columns_of ds) c refl h (columns-are ds) in
    record { variables = r.0; names_are = r.1; values_are = r.2; steps_are = r.3; as_many = r.4; new_names_are = r.5 }
columns-are (next (listed p (next x (next i (next s end)))) ds) c h =
    let r = columns-more ds (record { name = x; value = i; step = s }) (columns_of ds) c h (columns-are ds) in
    record { variables = r.0; names_are = r.1; values_are = r.2; steps_are = r.3; as_many = r.4; new_names_are = r.5 }
columns-are (next (listed p (next x (next i (next s (next f fs))))) ds) c h = absurd (cc)

-- What is no row of variables -----------------------------------------------------------

abbrev can_loop : Forms → Bool
can_loop ds = are_variables ds && is_some (binders_of true (firsts ds))

and-false : (a : Bool) → (a && false) ≡ false
and-false true = refl
and-false false = refl

and-onto : (a : Bool) (x : Option Binder) (p : Option (List Binder)) → (a && is_some p) ≡ false → (a && is_some (onto_binders x p)) ≡ false
and-onto false x p h = refl
and-onto true None p h = refl
and-onto true (Some x) None h = refl
and-onto true (Some x) (Some xs) h = absurd (cc)

none-more : (ds : Forms) (v : Stepped) (x : Option Binder) (o : Option Columns) → None ≡ onto_columns (Some v) o → (None ≡ o → can_loop ds ≡ false)
    → (are_variables ds && is_some (onto_binders x (binders_of true (firsts ds)))) ≡ false
none-more ds v x None h further = and-onto (are_variables ds) x (binders_of true (firsts ds)) (further refl)
none-more ds v x (Some c) h further = absurd (cc)

none-bare : (ds : Forms) (x i : Form) (s : Option Form) (o : Option Columns) → s ≡ bare_name x → None ≡ onto_columns (with_step x i s) o → (None ≡ o → can_loop ds ≡ false)
    → (are_variables ds && is_some (onto_binders (binder_of true x) (binders_of true (firsts ds)))) ≡ false
none-bare ds x i None o e h further = ap (λ b. are_variables ds && is_some (onto_binders b (binders_of true (firsts ds)))) (bare-none x e) ∙ and-false (are_variables ds)
none-bare ds x i (Some s) o e h further = none-more ds (record { name = x; value = i; step = s }) (binder_of true x) o h further

columns-none : (ds : Forms) → None ≡ columns_of ds → can_loop ds ≡ false
columns-none end h = absurd (cc)
columns-none (next (atom p a) ds) h = refl
columns-none (next (symbol p x m) ds) h = refl
columns-none (next (dotted p xs d) ds) h = refl
columns-none (next (vector p xs) ds) h = refl
columns-none (next (listed p end) ds) h = refl
columns-none (next (listed p (next x end)) ds) h = refl
columns-none (next (listed p (next x (next i end))) ds) h = none-bare ds x i (bare_name x) (columns_of ds) refl h (columns-none ds)
columns-none (next (listed p (next x (next i (next s end)))) ds) h = none-more ds (record { name = x; value = i; step = s }) (binder_of true x) (columns_of ds) h (columns-none ds)
columns-none (next (listed p (next x (next i (next s (next f fs))))) ds) h = refl

-- The row -------------------------------------------------------------------------------

abbrev turn_form : Place → Form → Repeated → Forms → Forms
turn_form at t p ss = next (core_if at p.test (results at p.ending) (core_begin at (join p.body (next (listed at (next t ss)) end)))) end

abbrev if_loops : Counts → Place → Repeated → Bool → Row
if_loops n at p t =
    if t then means (with_names n (1 + count p.header)) (core_loop at (new_name at n 0) (new_names at n 1 p.header) (seconds p.header) (firsts p.header) (turn_form at (new_name at n 0) p (steps_of p.header))) else wrong

abbrev do_row : Counts → Place → Option Repeated → Row
do_row n at None = wrong
do_row n at (Some p) = if_loops n at p (can_loop p.header)

derived-do : (n : Counts) (at : Place) (ds : Forms) → derived n at key.Do ds ≡ do_row n at (do_parts ds)
derived-do n at end = refl
derived-do n at (next (atom p a) end) = refl
derived-do n at (next (symbol p x m) end) = refl
derived-do n at (next (listed p xs) end) = refl
derived-do n at (next (dotted p xs d) end) = refl
derived-do n at (next (vector p xs) end) = refl
derived-do n at (next (atom p a) (next d bs)) = refl
derived-do n at (next (symbol p x m) (next d bs)) = refl
derived-do n at (next (dotted p xs e) (next d bs)) = refl
derived-do n at (next (vector p xs) (next d bs)) = refl
derived-do n at (next (listed p xs) (next (atom q a) bs)) = refl
derived-do n at (next (listed p xs) (next (symbol q x m) bs)) = refl
derived-do n at (next (listed p xs) (next (dotted q es e) bs)) = refl
derived-do n at (next (listed p xs) (next (vector q es) bs)) = refl
derived-do n at (next (listed p xs) (next (listed q end) bs)) = refl
derived-do n at (next (listed p xs) (next (listed q (next e rs)) bs)) = refl

row-of : (n : Counts) (at : Place) (ds : Forms) (p : Repeated) (b : Bool) → Some p ≡ do_parts ds → can_loop p.header ≡ b → derived n at key.Do ds ≡ if_loops n at p b
row-of n at ds p b e f = derived-do n at ds ∙ (ap (do_row n at) (sym e) ∙ ap (if_loops n at p) f)

pub do-refused : (n : Counts) (at : Place) (ds : Forms) (p : Repeated) → Some p ≡ do_parts ds → None ≡ columns_of p.header → derived n at key.Do ds ≡ wrong
do-refused n at ds p e h = row-of n at ds p false e (columns-none p.header h)

loops-if : (ds xs : Forms) (b : Bool) → are_variables ds ≡ true → firsts ds ≡ xs → is_some (binders_of true xs) ≡ b → can_loop ds ≡ b
loops-if ds xs b e f g = ap (λ a. a && is_some (binders_of true (firsts ds))) e ∙ (ap (λ xs. is_some (binders_of true xs)) f ∙ g)

pub do-doubled : (n : Counts) (at : Place) (ds : Forms) (p : Repeated) (c : Columns) → Some p ≡ do_parts ds → Some c ≡ columns_of p.header → is_some (binders_of true c.names) ≡ false → derived n at key.Do ds ≡ wrong
do-doubled n at ds p c e f g =
    let r = columns-are p.header c f in
    row-of n at ds p false e (loops-if p.header c.names false r.variables r.names_are g)

pub do-means : (n m : Counts) (at : Place) (ds : Forms) (p : Repeated) (c : Columns) (o : Form) → Some p ≡ do_parts ds → Some c ≡ columns_of p.header → is_some (binders_of true c.names) ≡ true
    → o ≡ core_loop at (new_name at n 0) (new_names at n 1 c.values) c.values c.names (turn_form at (new_name at n 0) p c.steps) → m ≡ with_names n (1 + count c.values) → derived n at key.Do ds ≡ means m o
do-means n m at ds p c o e f g h k =
    let r = columns-are p.header c f in
    row-of n at ds p true e (loops-if p.header c.names true r.variables r.names_are g)
    ∙ means-same (with_names n (1 + count p.header)) m
    (core_loop at (new_name at n 0) (new_names at n 1 p.header) (seconds p.header) (firsts p.header) (turn_form at (new_name at n 0) p (steps_of p.header))) o
    (ap (λ k. with_names n (1 + k)) (sym r.as_many) ∙ sym k)
    (loop-same at (new_name at n 0) (new_names at n 1 p.header) (new_names at n 1 c.values) (seconds p.header) c.values (firsts p.header) c.names (turn_form at (new_name at n 0) p (steps_of p.header))
    (sym (r.new_names_are at n 1)) r.values_are r.names_are
    ∙ (ap (λ ss. core_loop at (new_name at n 0) (new_names at n 1 c.values) c.values c.names (turn_form at (new_name at n 0) p ss)) r.steps_are ∙ sym h))

-- A loop with the first new name --------------------------------------------------------

abbrev pub turn_by : Place → Form → Form → Form → Forms → Forms → Forms
turn_by at test ending t body ss = next (core_if at test ending (core_begin at (join body (next (listed at (next t ss)) end)))) end

pub first-loop : (at : Place) (n m : Counts) (o f t test ending : Form) (es vs xs ys ss body bs : Forms) → o ≡ core_loop at f (new_names at m 0 es) es xs bs → f ≡ t → t ≡ new_name at n 0 → m ≡ with_names n 1
    → es ≡ vs → xs ≡ ys → bs ≡ turn_by at test ending t body ss → o ≡ core_loop at (new_name at n 0) (new_names at n 1 vs) vs ys (turn_by at test ending (new_name at n 0) body ss)
first-loop at n m o f t test ending es vs xs ys ss body bs e p q r u v w =
    e ∙ (ap (λ f. core_loop at f (new_names at m 0 es) es xs bs) (p ∙ q) ∙ (ap (λ ts. core_loop at (new_name at n 0) ts es xs bs) (names-next at n m es r)
    ∙ (ap (λ es. core_loop at (new_name at n 0) (new_names at n 1 es) es xs bs) u ∙ (ap (λ xs. core_loop at (new_name at n 0) (new_names at n 1 vs) vs xs bs) v
    ∙ ap (λ bs. core_loop at (new_name at n 0) (new_names at n 1 vs) vs ys bs) (w ∙ ap (λ t. turn_by at test ending t body ss) q)))))

pub body-same : (at : Place) (t o : Form) (ts : Forms) (c : Columns) (p : Repeated) (ending : Form) (body : Forms)
    → o ≡ core_loop at t ts c.values c.names (next (core_if at p.test ending (core_begin at (join body (next (listed at (next t c.steps)) end)))) end) → ending ≡ results at p.ending → body ≡ p.body
    → o ≡ core_loop at t ts c.values c.names (turn_form at t p c.steps)
body-same at t o ts c p ending body e f g =
    e ∙ (ap (λ x. core_loop at t ts c.values c.names (next (core_if at p.test x (core_begin at (join body (next (listed at (next t c.steps)) end)))) end)) f
    ∙ ap (λ bs. core_loop at t ts c.values c.names (next (core_if at p.test (results at p.ending) (core_begin at (join bs (next (listed at (next t c.steps)) end)))) end)) g)
