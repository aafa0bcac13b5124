-- Definitions in a body, and how their values are settled in them.
use Rattle.std.proofs.Common.{◌≡◌, List, [], ◌∷◌, Bool, true, false, if◌then◌else◌, Option, None, Some, Result, refl, sym, ap, subst, ◌∙◌}
use Rattle.std.specs.Prelude.{is_none}
use Rattle.std.specs.Option.{option_map}
use Rattle.scheme_data.specs.declared.datum.Place.{Place}
use Rattle.scheme_data.specs.declared.datum.Datum.{Datum}
use Rattle.scheme_data.specs.declared.datum.Datum.TheViews as views
use Rattle.scheme_data.specs.Forms.{Form, Forms, atom, symbol, listed, dotted, vector, end, next, form, form_place}
use Rattle.core_forms.specs.Scope.{keyword}
use Rattle.core_forms.specs.Names.{binder_of}
use Rattle.core_forms.specs.Bodies.{Definition, value, procedure, definable, definition_of}
use Rattle.core_forms.specs.Code.{data_of, items_in, OkOrMemory}
use Rattle.core_forms.specs.declared.core_form.Binder.{Binder}
use Rattle.core_forms.specs.declared.error.ExpandErr.{ExpandErr}
use Rattle.core_forms.proofs.Views.{form-List}
use Rattle.expansion_steps.specs.declared.looking.Definition as code
use Rattle.expansion_steps.specs.Parts.{DefinedAs}
use Rattle.expansion_steps.specs.Decided.{defined_name, value_in, procedure_in, second_in}
use Rattle.expansion_steps.proofs.Decisions.{listed_as, taken_apart}

-- The code's definitions ------------------------------------------------------------------

pub second_is : (at : Place) (w x : Form) (ds : Forms) → definition_of (listed at (next w (next x ds))) ≡ second_in w x ds
second_is at w (atom p a) end = refl
second_is at w (atom p a) (next e end) = refl
second_is at w (atom p a) (next e (next f fs)) = refl
second_is at w (symbol p x m) end = refl
second_is at w (symbol p x m) (next e end) = refl
second_is at w (symbol p x m) (next e (next f fs)) = refl
second_is at w (dotted p es t) end = refl
second_is at w (dotted p es t) (next e end) = refl
second_is at w (dotted p es t) (next e (next f fs)) = refl
second_is at w (vector p es) end = refl
second_is at w (vector p es) (next e end) = refl
second_is at w (vector p es) (next e (next f fs)) = refl
second_is at w (listed p end) end = refl
second_is at w (listed p end) (next e end) = refl
second_is at w (listed p end) (next e (next f fs)) = refl
second_is at w (listed p (next x xs)) end = refl
second_is at w (listed p (next x xs)) (next e es) = refl

pub no_list : (d : Form) → items_in d ≡ None → definition_of d ≡ None
no_list (atom p a) e = refl
no_list (symbol p x m) e = refl
no_list (listed p es) e = absurd (cc)
no_list (dotted p es t) e = refl
no_list (vector p es) e = refl

module _ (d : Form) (xs fs : List Datum) (i : items_in d ≡ Some (data_of xs)) (f : fs ≡ xs) where
  is_list_of : d ≡ listed (form_place d) (data_of fs)
  is_list_of = listed_as d xs fs (form_place d) refl i f

  pub no_word : fs ≡ [] → definition_of d ≡ None
  no_word g = ap definition_of (is_list_of ∙ ap (λ (fs : List Datum). listed (form_place d) (data_of fs)) g)

  pub word_alone : (w : Datum) (others : List Datum) → fs ≡ w ∷ others → others ≡ [] → definition_of d ≡ None
  word_alone w others g h = ap definition_of (is_list_of ∙ ap (λ (fs : List Datum). listed (form_place d) (data_of fs)) (g ∙ ap (λ (others : List Datum). w ∷ others) h))

  pub defined_second : (w x : Datum) (others more : List Datum) → fs ≡ w ∷ others → others ≡ x ∷ more → definition_of d ≡ second_in (form w) (form x) (data_of more)
  defined_second w x others more g h =
      ap definition_of (is_list_of ∙ ap (λ (fs : List Datum). listed (form_place d) (data_of fs)) (g ∙ ap (λ (others : List Datum). w ∷ others) h))
      ∙ second_is (form_place d) (form w) (form x) (data_of more)

pub defined_as : (o p : Option Definition) (r : Result (Option code.Definition) ExpandErr) → o ≡ p → OkOrMemory r (λ d. DefinedAs p d) → OkOrMemory r (λ d. DefinedAs o d)
defined_as o p r e h = subst (λ (o : Option Definition). OkOrMemory r (λ d. DefinedAs o d)) (sym e) h

definable_by : (b : Bool) (x : Binder) (f : Binder → Definition) → (if b then Some (f x) else None) ≡ option_map f (if b then Some x else None)
definable_by true x f = refl
definable_by false x f = refl

definable_is : (o : Option Binder) (f : Binder → Definition) → definable o f ≡ option_map f (defined_name o)
definable_is None f = refl
definable_is (Some x) f = definable_by (is_none (keyword x.name)) x f

pub definable_some : (o : Option Binder) (x : Binder) (f : Binder → Definition) → Some x ≡ defined_name o → definable o f ≡ Some (f x)
definable_some o x f h = definable_is o f ∙ ap (option_map f) (sym h)

pub definable_none : (o : Option Binder) (f : Binder → Definition) → None ≡ defined_name o → definable o f ≡ None
definable_none o f h = definable_is o f ∙ ap (option_map f) (sym h)

-- `(define x e)`
pub value_missing : (w x : Form) (others : List Datum) → others ≡ [] → value_in w x (data_of others) ≡ None
value_missing w x others g = ap (λ (fs : List Datum). value_in w x (data_of fs)) g

more_values : (w x : Form) (e : Datum) (more : List Datum) → (more ≡ [] → ⊥) → value_in w x (data_of (e ∷ more)) ≡ None
more_values w x e [] h = absurd (h refl)
more_values w x e (f ∷ more) h = refl

pub value_more : (w x : Form) (e : Datum) (others more : List Datum) → others ≡ e ∷ more → (more ≡ [] → ⊥) → value_in w x (data_of others) ≡ None
value_more w x e others more g h = ap (λ (fs : List Datum). value_in w x (data_of fs)) g ∙ more_values w x e more h

value_one : (w x : Form) (e : Datum) (others more : List Datum) → others ≡ e ∷ more → more ≡ [] → value_in w x (data_of others) ≡ definable (binder_of true x) (λ y. value y w x (form e))
value_one w x e others more g h = ap (λ (fs : List Datum). value_in w x (data_of fs)) (g ∙ ap (λ (more : List Datum). e ∷ more) h)

pub value_some : (w x : Form) (e : Datum) (others more : List Datum) (y : Binder) → others ≡ e ∷ more → more ≡ [] → Some y ≡ defined_name (binder_of true x) → value_in w x (data_of others) ≡ Some (value y w x (form e))
value_some w x e others more y g h i = value_one w x e others more g h ∙ definable_some (binder_of true x) y (λ y. value y w x (form e)) i

pub value_none : (w x : Form) (e : Datum) (others more : List Datum) → others ≡ e ∷ more → more ≡ [] → None ≡ defined_name (binder_of true x) → value_in w x (data_of others) ≡ None
value_none w x e others more g h i = value_one w x e others more g h ∙ definable_none (binder_of true x) (λ y. value y w x (form e)) i

-- `(define (f x ...) b ...)`
pub target_none : (d : Form) (ds : Forms) → items_in d ≡ None → procedure_in d ds ≡ None
target_none (atom p a) ds e = refl
target_none (symbol p x m) ds e = refl
target_none (listed p es) ds e = absurd (cc)
target_none (dotted p es t) ds e = refl
target_none (vector p es) ds e = refl

no_body : (d : Form) → procedure_in d end ≡ None
no_body (atom p a) = refl
no_body (symbol p x m) = refl
no_body (listed p end) = refl
no_body (listed p (next e es)) = refl
no_body (dotted p es t) = refl
no_body (vector p es) = refl

pub body_none : (d : Form) (body : List Datum) → body ≡ [] → procedure_in d (data_of body) ≡ None
body_none d body g = ap (λ (fs : List Datum). procedure_in d (data_of fs)) g ∙ no_body d

module _ (d : Form) (xs fs body : List Datum) (at : Place) (p : at ≡ form_place d) (i : items_in d ≡ Some (data_of xs)) (f : fs ≡ xs) where
  names_none_by : (ds : Forms) → procedure_in (listed at end) ds ≡ None
  names_none_by end = refl
  names_none_by (next b bs) = refl

  pub names_none : fs ≡ [] → procedure_in d (data_of body) ≡ None
  names_none g = ap (λ d. procedure_in d (data_of body)) (listed_as d xs fs at p i f ∙ ap (λ (fs : List Datum). listed at (data_of fs)) g) ∙ names_none_by (data_of body)

  with_body : (symbol : Form) (names : Forms) (body : List Datum) → (body ≡ [] → ⊥) → procedure_in (listed at (next symbol names)) (data_of body) ≡ definable (binder_of true symbol) (λ x. procedure x (next (listed at names) (data_of body)))
  with_body x names [] h = absurd (h refl)
  with_body x names (b ∷ bs) h = refl

  named : (x : Datum) (names : List Datum) → fs ≡ x ∷ names → (body ≡ [] → ⊥) → procedure_in d (data_of body) ≡ definable (binder_of true (form x)) (λ y. procedure y (next (listed at (data_of names)) (data_of body)))
  named x names g h = ap (λ d. procedure_in d (data_of body)) (taken_apart d xs fs names x at p i f g) ∙ with_body (form x) (data_of names) body h

  pub procedure_some : (x : Datum) (names : List Datum) (y : Binder) → fs ≡ x ∷ names → (body ≡ [] → ⊥) → Some y ≡ defined_name (binder_of true (form x))
      → procedure_in d (data_of body) ≡ Some (procedure y (next (listed at (data_of names)) (data_of body)))
  procedure_some x names y g h n = named x names g h ∙ definable_some (binder_of true (form x)) y (λ y. procedure y (next (listed at (data_of names)) (data_of body))) n

  pub procedure_none : (x : Datum) (names : List Datum) → fs ≡ x ∷ names → (body ≡ [] → ⊥) → None ≡ defined_name (binder_of true (form x)) → procedure_in d (data_of body) ≡ None
  procedure_none x names g h n = named x names g h ∙ definable_none (binder_of true (form x)) (λ y. procedure y (next (listed at (data_of names)) (data_of body))) n

pub parameters_stand : (at : Place) (y : Binder) (names items body new : List Datum) → items ≡ names → new ≡ views.List at items ∷ body
    → Some (procedure y (next (listed at (data_of names)) (data_of body))) ≡ Some (procedure y (data_of new))
parameters_stand at y names items body new e g =
    ap (λ fs. Some (procedure y fs)) (ap (λ (names : List Datum). next (listed at (data_of names)) (data_of body)) (sym e) ∙ (ap (λ d. next d (data_of body)) (sym (form-List at items)) ∙ ap data_of (sym g)))
