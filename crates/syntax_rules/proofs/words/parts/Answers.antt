use Rattle.std.proofs.Common.{◌≡◌, List, Option, Some, None, refl, ap}
use Rattle.scheme_data.specs.Forms.{Forms}
use Rattle.scheme_data.specs.declared.datum.Datum.{Datum}
use Rattle.syntax_rules.specs.Macros.{parts_of}
use Rattle.syntax_rules.specs.Views.{forms_of}
use Rattle.syntax_rules.proofs.Atoms.{no_list}
use Rattle.syntax_rules.proofs.Layers.{form-List}
use Rattle.syntax_rules.proofs.words.parts.Goals as goal

pub returns-in-List : goal.returns-in-List
returns-in-List c = rw c.in-List.is (rw (form-List c.in-List.field-0 c.in-List.ds) (ap (λ (ds : List Datum). Some (forms_of ds)) c.as_slice.ensures))

pub returns-in_default : goal.returns-in_default
returns-in_default c = no_list (λ f. ◌≡◌ {A = Option Forms} None (parts_of f)) (λ _ _. refl) (λ _ _ _. refl) (λ _ _. refl) (λ _ _ _. refl) c.args.d.now c.in_default.not-List
