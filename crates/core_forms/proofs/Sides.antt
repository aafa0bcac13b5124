-- The two sides of bindings.
use Rattle.std.proofs.Common.{◌≡◌, Bool, false, List, [], ◌∷◌, ◌++◌, Option, None, refl, sym, ap, ◌∙◌, ℕ, length, Some, arith, append_assoc}
use Rattle.std.proofs.lemmas.List.{append-nil}
use Rattle.std.specs.List.{slice_get, remove}
use Rattle.scheme_data.specs.declared.datum.Place.{Place}
use Rattle.scheme_data.specs.declared.datum.Datum.{Datum}
use Rattle.scheme_data.specs.Forms.{Form, Forms, listed, atom, symbol, dotted, vector, end, next, form, form_place, join}
use Rattle.core_forms.specs.Names.{are_pairs, firsts, seconds, names_of, binders_of}
use Rattle.core_forms.specs.Code.{data_of, items_in}
use Rattle.core_forms.specs.Working.{AreBindings}
use Rattle.core_forms.specs.declared.core_form.Binder.{Binder}
use Rattle.core_forms.proofs.Views.{join_last}

-- One binding ---------------------------------------------------------------------------

some_same : {A : Type 0} (a b : A) → Some a ≡ Some b → a ≡ b
some_same a b e = cc

two_sides : (p : Place) (ds : List Datum) → (length ds ≡ 2 → ⊥) → are_pairs (next (listed p (data_of ds)) end) ≡ false
two_sides p [] h = refl
two_sides p (a ∷ []) h = refl
two_sides p (a ∷ b ∷ []) h = absurd (h refl)
two_sides p (a ∷ b ∷ c ∷ ds) h = refl

pub wrong_length_is_no_pair : (f : Form) (ds : List Datum) (k : ℕ) → items_in f ≡ Some (data_of ds) → k ≡ length ds → (k ≡ 2 → ⊥) → are_pairs (next f end) ≡ false
wrong_length_is_no_pair (listed p es) ds k e is h = ap (λ es. are_pairs (next (listed p es) end)) (some_same _ _ e) ∙ two_sides p ds (λ two. h (is ∙ two))
wrong_length_is_no_pair (atom p a) ds k e is h = refl
wrong_length_is_no_pair (symbol p x m) ds k e is h = refl
wrong_length_is_no_pair (dotted p es d) ds k e is h = refl
wrong_length_is_no_pair (vector p es) ds k e is h = refl

-- what is left behind the second and then the first of two
pub pair_is : (f : Form) (ds one : List Datum) (k : ℕ) (value name : Datum) → items_in f ≡ Some (data_of ds) → k ≡ length ds → k ≡ 2 → slice_get ds 1 ≡ Some value → one ≡ remove ds 1 → slice_get one 0 ≡ Some name
    → f ≡ listed (form_place f) (next (form name) (next (form value) end))
pair_is (listed p es) (a ∷ b ∷ []) one k value name e is two second left first =
    ap (listed p) (some_same _ _ e ∙ (ap (λ (a : Datum). next (form a) (next (form b) end)) (some_same _ _ (sym (ap (λ one. slice_get one 0) left) ∙ first)) ∙ ap (λ (b : Datum). next (form name) (next (form b) end)) (some_same _ _ second)))
pair_is (listed p es) [] one k value name e is two second left first = absurd (omega (arith, is, two))
pair_is (listed p es) (a ∷ []) one k value name e is two second left first = absurd (omega (arith, is, two))
pair_is (listed p es) (a ∷ b ∷ c ∷ ds) one k value name e is two second left first = absurd (omega (arith, is, two))
pair_is (atom p a) ds one k value name e is two second left first = absurd (cc)
pair_is (symbol p x m) ds one k value name e is two second left first = absurd (cc)
pair_is (dotted p es d) ds one k value name e is two second left first = absurd (cc)
pair_is (vector p es) ds one k value name e is two second left first = absurd (cc)

-- All of them ---------------------------------------------------------------------------

-- what the bindings so far and those that are left say of all
pub record SidesAs (all : Forms) (names values left : List Datum) : Type 0 where
  pub pairs : are_pairs all ≡ are_pairs (data_of left)
  pub names_are : firsts all ≡ join (data_of names) (firsts (data_of left))
  pub values_are : seconds all ≡ join (data_of values) (seconds (data_of left))

pub sides_more : (all : Forms) (names values left names2 values2 rest : List Datum) (d name value : Datum) → SidesAs all names values left → left ≡ d ∷ rest → form d ≡ listed (form_place (form d)) (next (form name) (next (form value) end))
    → names2 ≡ names ++ name ∷ [] → values2 ≡ values ++ value ∷ [] → SidesAs all names2 values2 rest
sides_more all names values left names2 values2 rest d name value h e f g i =
    let is : data_of left ≡ next (listed (form_place (form d)) (next (form name) (next (form value) end))) (data_of rest) = ap data_of e ∙ ap (λ f. next f (data_of rest)) f in
    record {
      pairs = h.pairs ∙ ap are_pairs is;
      names_are = h.names_are ∙ (ap (λ left. join (data_of names) (firsts left)) is ∙ (sym (join_last names name (firsts (data_of rest))) ∙ sym (ap (λ names. join (data_of names) (firsts (data_of rest))) g)));
      values_are = h.values_are ∙ (ap (λ left. join (data_of values) (seconds left)) is ∙ (sym (join_last values value (seconds (data_of rest))) ∙ sym (ap (λ values. join (data_of values) (seconds (data_of rest))) i)));
    }

not_first : (d : Form) (ds : Forms) → are_pairs (next d end) ≡ false → are_pairs (next d ds) ≡ false
not_first (atom at a) ds h = refl
not_first (symbol at x m) ds h = refl
not_first (listed at end) ds h = refl
not_first (listed at (next x end)) ds h = refl
not_first (listed at (next x (next e end))) ds h = absurd (cc)
not_first (listed at (next x (next e (next f fs)))) ds h = refl
not_first (dotted at es d) ds h = refl
not_first (vector at es) ds h = refl

pub sides_stop : (all : Forms) (names values left rest : List Datum) (d : Datum) → SidesAs all names values left → left ≡ d ∷ rest → are_pairs (next (form d) end) ≡ false → are_pairs all ≡ false
sides_stop all names values left rest d h e f = h.pairs ∙ (ap (λ left. are_pairs (data_of left)) e ∙ not_first (form d) (data_of rest) f)

join_end : (fs : Forms) → join fs end ≡ fs
join_end end = refl
join_end (next d ds) = ap (next d) (join_end ds)

pub sides_end : (all : Forms) (names values left : List Datum) → SidesAs all names values left → left ≡ [] → AreBindings all names values
sides_end all names values left h e = record {
  pairs = h.pairs ∙ ap (λ left. are_pairs (data_of left)) e;
  names_are = h.names_are ∙ (ap (λ left. join (data_of names) (firsts (data_of left))) e ∙ join_end (data_of names));
  values_are = h.values_are ∙ (ap (λ left. join (data_of values) (seconds (data_of left))) e ∙ join_end (data_of values));
}

-- Names and values ----------------------------------------------------------------------

pub no_pairs : (types : Bool) (ds : Forms) → are_pairs ds ≡ false → names_of types ds ≡ None
no_pairs types ds h = rw h refl

pub names_by : (types : Bool) (ds : Forms) (names values : List Datum) (o : Option (List Binder)) → AreBindings ds names values → o ≡ binders_of types (data_of names) → names_of types ds ≡ o
names_by types ds names values o h e = rw (h.pairs, h.names_are, e) refl

-- From one list into another ------------------------------------------------------------

pub moved : (whole some left more rest : List Datum) (d : Datum) → some ++ left ≡ whole → left ≡ d ∷ rest → more ≡ some ++ d ∷ [] → more ++ rest ≡ whole
moved whole some left more rest d e f g = ap (λ more. more ++ rest) g ∙ (append_assoc some (d ∷ []) rest ∙ (ap (λ left. some ++ left) (sym f) ∙ e))

pub all_moved : (whole some left : List Datum) → some ++ left ≡ whole → left ≡ [] → some ≡ whole
all_moved whole some left e f = sym (append-nil some) ∙ (ap (λ left. some ++ left) (sym f) ∙ e)

pub moved_back : (whole left some more rest : List Datum) (d : Datum) → left ++ some ≡ whole → left ≡ rest ++ d ∷ [] → more ≡ d ∷ some → rest ++ more ≡ whole
moved_back whole left some more rest d e f g = ap (λ more. rest ++ more) g ∙ (sym (append_assoc rest (d ∷ []) some) ∙ (ap (λ left. left ++ some) (sym f) ∙ e))

pub all_moved_back : (whole left some : List Datum) → left ++ some ≡ whole → left ≡ [] → some ≡ whole
all_moved_back whole left some e f = sym (ap (λ left. left ++ some) f) ∙ e
