-- What the code does at one form of a module, among the others.
use Rattle.std.proofs.Common.{◌≡◌, ℕ, List, [], ◌∷◌, ◌++◌, map, Some, Result, Ok, Err, OnOk, refl, sym, ap, ◌∙◌, subst}
use Rattle.std.proofs.lemmas.List.{append-nil}
use Rattle.scheme_data.specs.declared.datum.Place.{Place}
use Rattle.scheme_data.specs.Forms.{Form}
use Rattle.syntax_rules.specs.Trees.{Macro}
use Rattle.core_forms.specs.Scope.{Meaning, Marked, head_meaning}
use Rattle.core_forms.specs.Modules.{Top, form, syntax, top_tree, top_step, TopsReach, top_as}
use Rattle.core_forms.specs.Modules as modules
use Rattle.core_forms.specs.declared.core_form.CoreTop.{CoreTop}
use Rattle.core_forms.specs.declared.core_form.CoreTop.TheVariants as code
use Rattle.core_forms.specs.declared.counting.Counts.{Counts}
use Rattle.core_forms.specs.declared.error.ExpandErr.{ExpandErr}
use Rattle.expander.specs.declared.expander.Expander.{Expander}
use Rattle.expansion_steps.specs.Heads.{macros_of}
use Rattle.expander.specs.Around.{SameAround}
use Rattle.expander.specs.TopWalks.{TopsBecome, AddsAs, SoFar, Further, Advances}
use Rattle.expander.proofs.TopSteps.{added}

-- what stands at the head of a form tells its step
pub top_is : (ks : List Macro) (n : Counts) (s : List Marked) (d : Form) (m : Meaning) → s ≡ [] → m ≡ head_meaning ks s d → top_step ks n (form d) ≡ top_as m ks n d
top_is ks n s d m e g = ap (λ m. top_as m ks n d) (ap (λ s. head_meaning ks s d) (sym e) ∙ sym g)

pub macros_kept : (r : Result CoreTop ExpandErr) (before after : Expander) → OnOk r (SameAround before after) → (c : CoreTop) → r ≡ Ok c → macros_of after.macros ≡ macros_of before.macros
macros_kept (Ok d) before after h c e = ap macros_of h.macros
macros_kept (Err f) before after h c e = absurd (cc)

pub scope_kept : (made : Result CoreTop ExpandErr) (r : Result (Unit {0}) ExpandErr) (old new : List CoreTop) (before after : Expander) → AddsAs made old r new → OnOk made (SameAround before after) → before.scope ≡ []
    → OnOk r (after.scope ≡ [])
scope_kept (Ok d) (Ok u) old new before after a h e = h.scope ∙ e
scope_kept (Ok d) (Err f) old new before after a h e = tt
scope_kept (Err g) (Ok u) old new before after a h e = absurd a
scope_kept (Err g) (Err f) old new before after a h e = tt

-- a `define-syntax` that is read already
pub syntax_added : (ks : List Macro) (n : Counts) (done new : List CoreTop) (left : List Top) (at : Place) (x : List ℕ) (r : Result (Unit {0}) ExpandErr) → AddsAs (Ok (code.Syntax at x)) done r new
    → Advances ks n done (syntax at x ∷ left) r ks n new left
syntax_added ks n done new left at x r a =
    added ks n done (syntax at x) left (Ok (code.Syntax at x)) r ks n new (record { last = syntax at x; reaches = λ ts. modules.here; shows = refl }) a (λ c e. refl)

-- the beginning and the end of a module
pub begun : (ks : List Macro) (n : Counts) (ts : List Top) (done : List CoreTop) → done ≡ [] → SoFar ks n ts ks n done ts
begun ks n ts done e = record { front = []; reaches = modules.here; shows = ap (λ cs. Some (map top_tree cs)) (sym e) }

pub ended : (ks : List Macro) (n : Counts) (ts : List Top) (known : List Macro) (after : Counts) (done : List CoreTop) (left : List Top) → left ≡ [] → SoFar ks n ts known after done left → TopsBecome ks n ts (map top_tree done)
ended ks n ts known after done left e s = record {
  known = known;
  counts = after;
  last = s.front;
  reaches = subst (λ us. TopsReach ks n ts known after us) (ap (λ us. s.front ++ us) e ∙ append-nil s.front) s.reaches;
  shows = s.shows;
}

-- from one form on top to the next
pub went_first : (js : List Macro) (m : Counts) (done : List CoreTop) (t : Top) (left whole : List Top) (r : Result (Unit {0}) ExpandErr) (known : List Macro) (after : Counts) (new : List CoreTop) (rest : List Top)
    → whole ≡ t ∷ left → Advances js m done (t ∷ left) r known after new rest → (ks : List Macro) (n : Counts) (ts : List Top) → SoFar ks n ts js m done whole → Further ks n ts r known after new rest
went_first js m done t left whole r known after new rest e h ks n ts s = h ks n ts (subst (λ us. SoFar ks n ts js m done us) e s)
