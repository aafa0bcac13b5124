use Rattle.std.proofs.Common.{◌≡◌, List, ap, ◌∙◌, refl}
use Rattle.scheme_data.specs.declared.datum.Place.{Place}
use Rattle.scheme_data.specs.declared.datum.Datum.{Datum}
use Rattle.scheme_data.specs.declared.datum.Datum.TheViews as views
use Rattle.scheme_data.specs.Forms.{form}
use Rattle.syntax_rules.specs.Trees.{Macro}
use Rattle.core_forms.specs.Scope.{Marked, Meaning, meaning_first, macro_alone, head_meaning}
use Rattle.core_forms.specs.Code.{data_of}
use Rattle.core_forms.proofs.Views.{form-Dotted}
use Rattle.expansion_steps.proofs.heads.head_of.Goals as goal

dotted-head : (ks : List Macro) (s : List Marked) (d : Datum) (at : Place) (ds now : List Datum) (tail : Datum) (h m : Meaning) → d ≡ views.Dotted at ds tail → h ≡ meaning_first ks s (data_of now) → now ≡ ds
    → m ≡ macro_alone h → m ≡ head_meaning ks s (form d)
dotted-head ks s d at ds now tail h m e f g a = a ∙ (ap macro_alone (f ∙ ap (λ ds. meaning_first ks s (data_of ds)) g) ∙ rw (e, form-Dotted at ds tail) refl)

pub returns-in_ok-head-in-Dotted : goal.returns-in_ok-head-in-Dotted
returns-in_ok-head-in-Dotted c = dotted-head _ _ _ _ _ _ _ _ _ c.in-Dotted.is c.in_ok-head-in-Dotted.ensures c.as_slice-in-Dotted.ensures c.macro_alone.ensures
