-- Definitions at top level, as the code makes them.
use Rattle.std.proofs.Common.{◌≡◌, true, List, [], ◌∷◌, remove, slice_get, Option, Some, None, Result, Err, refl, sym, ap, ◌∙◌, subst}
use Rattle.std.specs.Prelude.{IfOk}
use Rattle.std.specs.Option.{option_map}
use Rattle.scheme_data.specs.declared.datum.Datum.{Datum}
use Rattle.scheme_data.specs.declared.datum.Datum.TheViews as views
use Rattle.scheme_data.specs.declared.datum.Place.{Place}
use Rattle.scheme_data.specs.declared.text.OutOfMemory.{OutOfMemory}
use Rattle.scheme_data.specs.Forms.{Form, Forms, listed, next, form, form_place}
use Rattle.syntax_rules.specs.Trees.{Macro}
use Rattle.core_forms.specs.Names.{binder_of}
use Rattle.core_forms.specs.Bodies.{Definition, definition_of}
use Rattle.core_forms.specs.Modules.{ends, define_top, inline_of}
use Rattle.core_forms.specs.Code.{data_of, items_in}
use Rattle.core_forms.specs.declared.core_form.Binder.{Binder}
use Rattle.core_forms.specs.declared.core_form.CoreTop.{CoreTop}
use Rattle.core_forms.specs.declared.counting.Counts.{Counts}
use Rattle.core_forms.specs.declared.error.ExpandErr.{ExpandErr}
use Rattle.core_forms.specs.declared.error.ExpandErr.TheVariants as fault
use Rattle.core_forms.proofs.Views.{form-List}
use Rattle.expansion_steps.specs.declared.turning.Special.{Special}
use Rattle.expansion_steps.specs.declared.looking.Definition as code
use Rattle.expansion_steps.specs.Parts.{IsBehind, DefinedAs, definition_is}
use Rattle.expander.specs.declared.module.Inline.{Inline}
use Rattle.expander.specs.TopWalks.{StepWalked, inline_parts, inlined, InlineAs}
use Rattle.expander.proofs.TopSteps.{ends_walked}
use Rattle.expander.proofs.TopForms.{inline_is, no_list, is_list, inline_some, inline_none, step_is}

-- Parts of an inline --------------------------------------------------------------------

-- the first of a list, taken away
taken_first : {A : Type 0} (xs : List A) (x : A) (ys : List A) → slice_get xs 0 ≡ Some x → ys ≡ remove xs 0 → xs ≡ x ∷ ys
taken_first [] x ys g r = absurd (cc)
taken_first (y ∷ xs) x ys g r = let s : ys ≡ xs = r in cc

pub names_missing : (p at : Place) (names body : List Datum) → names ≡ [] → InlineAs p (next (listed at (data_of names)) (data_of body)) None
names_missing p at [] body e ks n = refl
names_missing p at (f ∷ xs) body e ks n = absurd (cc)

pub body_missing : (p at : Place) (names body : List Datum) → body ≡ [] → InlineAs p (next (listed at (data_of names)) (data_of body)) None
body_missing p at [] [] e ks n = refl
body_missing p at (f ∷ xs) [] e ks n = refl
body_missing p at names (b ∷ bs) e ks n = absurd (cc)

module _ (p at : Place) (names : List Datum) (f : Datum) (xs : List Datum) (g : slice_get names 0 ≡ Some f) (r : xs ≡ remove names 0) where
  none_of : (body : List Datum) → (body ≡ [] → ⊥) → None ≡ binder_of true (form f) → InlineAs p (next (listed at (data_of (f ∷ xs))) (data_of body)) None
  none_of [] h e = absurd (h refl)
  none_of (b ∷ bs) h e = inline_none p at f xs b bs e

  some_of : (body new : List Datum) (x : Binder) → (body ≡ [] → ⊥) → Some x ≡ binder_of true (form f) → new ≡ views.List at xs ∷ body
      → InlineAs p (next (listed at (data_of (f ∷ xs))) (data_of body)) (Some (record { binder = x; forms = new }))
  some_of [] new x h e i = absurd (h refl)
  some_of (b ∷ bs) new x h e i = inline_some p at f xs b bs x new e (ap data_of i ∙ ap (λ d. next d (data_of (b ∷ bs))) (form-List at xs))

  pub name_missing : (body : List Datum) → (body ≡ [] → ⊥) → None ≡ binder_of true (form f) → InlineAs p (next (listed at (data_of names)) (data_of body)) None
  name_missing body h e = subst (λ (names : List Datum). InlineAs p (next (listed at (data_of names)) (data_of body)) None) (sym (taken_first names f xs g r)) (none_of body h e)

  pub named_made : (body new : List Datum) (x : Binder) → (body ≡ [] → ⊥) → Some x ≡ binder_of true (form f) → new ≡ views.List at xs ∷ body
      → InlineAs p (next (listed at (data_of names)) (data_of body)) (Some (record { binder = x; forms = new }))
  named_made body new x h e i =
      subst (λ (names : List Datum). InlineAs p (next (listed at (data_of names)) (data_of body)) (Some (record { binder = x; forms = new }))) (sym (taken_first names f xs g r)) (some_of body new x h e i)

pub parts_missing : (p : Place) (ds : List Datum) → ds ≡ [] → InlineAs p (data_of ds) None
parts_missing p [] e ks n = refl
parts_missing p (d ∷ ds) e ks n = absurd (cc)

pub list_missing : (p : Place) (ds left : List Datum) (d : Datum) → ds ≡ d ∷ left → items_in (form d) ≡ None → InlineAs p (data_of ds) None
list_missing p ds left d e f = subst (λ (ds : List Datum). InlineAs p (data_of ds) None) (sym e) (no_list p (form d) (data_of left) f)

pub inline_of_list : (ds left names : List Datum) (d : Datum) (at : Place) (r : Result (Option Inline) OutOfMemory) → ds ≡ d ∷ left → at ≡ form_place (form d) → items_in (form d) ≡ Some (data_of names)
    → IfOk r (λ i. (p : Place) → InlineAs p (next (listed at (data_of names)) (data_of left)) i) → IfOk r (λ i. (p : Place) → InlineAs p (data_of ds) i)
inline_of_list ds left names d at r e f g h =
    subst (λ (fs : Forms). IfOk r (λ i. (p : Place) → InlineAs p fs i)) (ap (λ d. next d (data_of left)) (sym (is_list (form d) at (data_of names) f g)) ∙ sym (ap data_of e)) h

-- Definitions ---------------------------------------------------------------------------

module _ (ks : List Macro) (n : Counts) (d : Form) (at : Place) (p : at ≡ form_place d) where
  pub define_refused : (after : Counts) → definition_of d ≡ None → StepWalked ks n (define_top ks n (form_place d) (definition_of d)) (Err (fault.Form at)) after
  define_refused after e =
      step_is ks n (define_top ks n (form_place d) (definition_of d)) (ends (fault.Form at)) (Err (fault.Form at)) after
      (ap (define_top ks n (form_place d)) e ∙ ap (λ p. ends (fault.Form p)) (sym p)) (ends_walked ks n (fault.Form at) after)

  pub define_made : (x : Definition) (r : Result CoreTop ExpandErr) (after : Counts) → definition_of d ≡ Some x → StepWalked ks n (define_top ks n at (Some x)) r after
      → StepWalked ks n (define_top ks n (form_place d) (definition_of d)) r after
  define_made x r after e h =
      step_is ks n (define_top ks n (form_place d) (definition_of d)) (define_top ks n at (Some x)) r after
      (ap (define_top ks n (form_place d)) e ∙ ap (λ p. define_top ks n p (Some x)) (sym p)) h

-- Inlines -------------------------------------------------------------------------------

module _ (ks : List Macro) (n : Counts) (d : Form) (s : Special) (b : IsBehind d s) where
  inline_as : (i : Option Inline) → ((p : Place) → InlineAs p (data_of s.forms) i) → inline_of ks n d ≡ inlined ks n s.at i
  inline_as i h = inline_is ks n d ∙ (ap (inline_parts ks n (form_place d)) (sym b.parts) ∙ (h (form_place d) ks n ∙ ap (λ p. inlined ks n p i) (sym b.place)))

  pub inline_refused : (after : Counts) (i : Option Inline) → ((p : Place) → InlineAs p (data_of s.forms) i) → i ≡ None → StepWalked ks n (inline_of ks n d) (Err (fault.Form s.at)) after
  inline_refused after i h e =
      step_is ks n (inline_of ks n d) (ends (fault.Form s.at)) (Err (fault.Form s.at)) after (inline_as i h ∙ ap (inlined ks n s.at) e) (ends_walked ks n (fault.Form s.at) after)

  pub inline_made : (r : Result CoreTop ExpandErr) (after : Counts) (i : Option Inline) (x : Inline) → ((p : Place) → InlineAs p (data_of s.forms) i) → i ≡ Some x → StepWalked ks n (inlined ks n s.at (Some x)) r after
      → StepWalked ks n (inline_of ks n d) r after
  inline_made r after i x h e w = step_is ks n (inline_of ks n d) (inlined ks n s.at (Some x)) r after (inline_as i h ∙ ap (inlined ks n s.at) e) w

-- what the code finds of a definition
pub found_none : (d : Form) (o : Option code.Definition) → DefinedAs (definition_of d) o → o ≡ None → definition_of d ≡ None
found_none d None h e = h
found_none d (Some x) h e = absurd (cc)

pub found_some : (d : Form) (o : Option code.Definition) (x : code.Definition) → DefinedAs (definition_of d) o → o ≡ Some x → definition_of d ≡ Some (definition_is x)
found_some d None x h e = absurd (cc)
found_some d (Some y) x h e = h ∙ ap (λ (o : Option code.Definition). option_map definition_is o) e
