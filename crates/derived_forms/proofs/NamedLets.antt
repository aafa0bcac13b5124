-- What a named `let` means.
use Rattle.std.proofs.Common.{◌≡◌, ℕ, ◌+◌, Bool, true, false, not, ◌&&◌, if◌then◌else◌, is_some, List, Option, None, Some, refl, sym, ap, ◌∙◌}
use Rattle.scheme_data.specs.declared.datum.Place.{Place}
use Rattle.scheme_data.specs.declared.datum.Datum.{Datum}
use Rattle.scheme_data.specs.Forms.{Form, Forms, atom, symbol, listed, dotted, vector, end, next}
use Rattle.scheme_data.specs.TypedNames.{has_type}
use Rattle.core_forms.specs.Names.{new_name, new_names, with_names, are_pairs, firsts, seconds, names_of}
use Rattle.core_forms.specs.Table.{core_loop, count, Row, means, wrong, derived}
use Rattle.core_forms.specs.Code.{data_of}
use Rattle.core_forms.specs.declared.counting.Counts.{Counts}
use Rattle.core_forms.specs.declared.words.Keyword.TheVariants as key
use Rattle.derived_forms.specs.Rows.{begins_with_symbol}
use Rattle.derived_forms.specs.LoopViews.{NamedLet, let_parts, AreSides}

abbrev if_named : Counts → Place → NamedLet → Bool → Row
if_named n at p t = if t then means (with_names n (count p.bindings)) (core_loop at p.name (new_names at n 0 p.bindings) (seconds p.bindings) (firsts p.bindings) p.body) else wrong

abbrev pub let_row : Counts → Place → Option NamedLet → Row
let_row n at None = wrong
let_row n at (Some p) = if_named n at p (is_some (names_of true p.bindings))

typed-or-not : (n : Counts) (at : Place) (p : NamedLet) (a t : Bool) → is_some (names_of true p.bindings) ≡ a → if_named n at p (a && not t) ≡ let_row n at (if t then None else Some p)
typed-or-not n at p true true e = refl
typed-or-not n at p false true e = refl
typed-or-not n at p true false e = ap (if_named n at p) (sym e)
typed-or-not n at p false false e = ap (if_named n at p) (sym e)

pub derived-let : (n : Counts) (at : Place) (ds : Forms) → begins_with_symbol ds ≡ true → derived n at key.Let ds ≡ let_row n at (let_parts ds)
derived-let n at end h = absurd (cc)
derived-let n at (next (atom p a) ds) h = absurd (cc)
derived-let n at (next (listed p xs) ds) h = absurd (cc)
derived-let n at (next (dotted p xs d) ds) h = absurd (cc)
derived-let n at (next (vector p xs) ds) h = absurd (cc)
derived-let n at (next (symbol p f m) end) h = refl
derived-let n at (next (symbol p f m) (next (atom q a) bs)) h = refl
derived-let n at (next (symbol p f m) (next (symbol q x k) bs)) h = refl
derived-let n at (next (symbol p f m) (next (dotted q xs d) bs)) h = refl
derived-let n at (next (symbol p f m) (next (vector q xs) bs)) h = refl
derived-let n at (next (symbol p f m) (next (listed q xs) end)) h = refl
derived-let n at (next (symbol p f m) (next (listed q xs) (next b bs))) h =
    typed-or-not n at (record { name = symbol p f m; bindings = xs; body = next b bs }) (is_some (names_of true xs)) (has_type f) refl

-- As many values as bindings ------------------------------------------------------------

pub count-values : (ds : Forms) → are_pairs ds ≡ true → count (seconds ds) ≡ count ds
count-values end h = refl
count-values (next (atom p a) ds) h = absurd (cc)
count-values (next (symbol p x m) ds) h = absurd (cc)
count-values (next (dotted p xs d) ds) h = absurd (cc)
count-values (next (vector p xs) ds) h = absurd (cc)
count-values (next (listed p end) ds) h = absurd (cc)
count-values (next (listed p (next x end)) ds) h = absurd (cc)
count-values (next (listed p (next x (next e end))) ds) h = ap (λ k. 1 + k) (count-values ds h)
count-values (next (listed p (next x (next e (next f fs)))) ds) h = absurd (cc)

pub names-values : (at : Place) (n : Counts) (k : ℕ) (ds : Forms) → are_pairs ds ≡ true → new_names at n k (seconds ds) ≡ new_names at n k ds
names-values at n k end h = refl
names-values at n k (next (atom p a) ds) h = absurd (cc)
names-values at n k (next (symbol p x m) ds) h = absurd (cc)
names-values at n k (next (dotted p xs d) ds) h = absurd (cc)
names-values at n k (next (vector p xs) ds) h = absurd (cc)
names-values at n k (next (listed p end) ds) h = absurd (cc)
names-values at n k (next (listed p (next x end)) ds) h = absurd (cc)
names-values at n k (next (listed p (next x (next e end))) ds) h = ap (next (new_name at n k)) (names-values at n (k + 1) ds h)
names-values at n k (next (listed p (next x (next e (next f fs)))) ds) h = absurd (cc)

pub loop-same : (at : Place) (f : Form) (ts us es fs xs ys bs : Forms) → ts ≡ us → es ≡ fs → xs ≡ ys → core_loop at f ts es xs bs ≡ core_loop at f us fs ys bs
loop-same at f ts us es fs xs ys bs p q r =
    ap (λ ts. core_loop at f ts es xs bs) p ∙ (ap (λ es. core_loop at f us es xs bs) q ∙ ap (λ xs. core_loop at f us fs xs bs) r)

pub means-same : (m k : Counts) (a b : Form) → m ≡ k → a ≡ b → means m a ≡ means k b
means-same m k a b p q = ap (λ m. means m a) p ∙ ap (λ a. means k a) q

pub let-means : (n m : Counts) (at : Place) (ds : Forms) (p : NamedLet) (names values : List Datum) (o : Form) → Some p ≡ let_parts ds → AreSides p.bindings names values
    → o ≡ core_loop at p.name (new_names at n 0 (data_of values)) (data_of values) (data_of names) p.body → m ≡ with_names n (count (data_of values))
    → begins_with_symbol ds ≡ true → derived n at key.Let ds ≡ means m o
let-means n m at ds p names values o e s f g h =
    derived-let n at ds h ∙ (ap (let_row n at) (sym e) ∙ (ap (if_named n at p) s.named
    ∙ means-same (with_names n (count p.bindings)) m (core_loop at p.name (new_names at n 0 p.bindings) (seconds p.bindings) (firsts p.bindings) p.body) o
    (ap (with_names n) (sym (count-values p.bindings s.pairs) ∙ ap count s.values_are) ∙ sym g)
    (loop-same at p.name (new_names at n 0 p.bindings) (new_names at n 0 (data_of values)) (seconds p.bindings) (data_of values) (firsts p.bindings) (data_of names) p.body
    (sym (names-values at n 0 p.bindings s.pairs) ∙ ap (new_names at n 0) s.values_are) s.values_are s.names_are ∙ sym f)))
