-- Forms and nodes that are put together piece by piece.
use Rattle.std.proofs.Common.{◌≡◌, List, [], ◌∷◌, sym, ap, ◌∙◌}
use Rattle.scheme_data.specs.declared.datum.Place.{Place}
use Rattle.scheme_data.specs.declared.datum.Datum.{Datum}
use Rattle.scheme_data.specs.declared.datum.Datum.TheViews as views
use Rattle.scheme_data.specs.Forms.{form, listed, next}
use Rattle.core_forms.specs.Mid.{branch, mid_nesting, none, part, node, raw}
use Rattle.core_forms.specs.Table.{becomes}
use Rattle.core_forms.specs.Code.{data_of}
use Rattle.core_forms.specs.Working.{open_of, node_mid, IsNode}
use Rattle.core_forms.specs.declared.counting.Counts.{Counts}
use Rattle.core_forms.specs.declared.work.Kind.TheVariants as kind
use Rattle.core_forms.specs.declared.work.Lists.TheVariants.{One}
use Rattle.core_forms.specs.declared.work.Node.{Node}
use Rattle.core_forms.specs.declared.work.Open.{Open}
use Rattle.core_forms.specs.declared.work.Open.TheVariants as open_form
use Rattle.core_forms.specs.declared.work.Part.{Part}
use Rattle.core_forms.specs.declared.work.Work.TheVariants.{Raw}
use Rattle.core_forms.proofs.Views.{form-List}

pub word_listed : (at : Place) (word : Datum) (others all list : List Datum) → all ≡ word ∷ others → list ≡ all → form (views.List at list) ≡ listed at (next (form word) (data_of others))
word_listed at word others all list e f = form-List at list ∙ ap (λ ds. listed at (data_of ds)) (f ∙ e)

-- a condition with its two arms
abbrev made_if : Place → List Part → List Part → Node
made_if at outer inner = record { at = at; kind = kind.If; nesting = 1; outer = outer; inner = inner }

abbrev raw_part : Open → Part
raw_part o = record { lists = One; work = Raw o }

pub choice_is : (at : Place) (first : Datum) (second third : Open) (arms outer inner : List Part) → arms ≡ record { lists = One; work = Raw second } ∷ record { lists = One; work = Raw third } ∷ []
    → outer ≡ record { lists = One; work = Raw (open_form.Datum first) } ∷ arms → inner ≡ [] → (n : Counts)
    → IsNode (becomes n (node at branch (part 1 [] (raw (form first)) (part 1 [] (raw (open_of second)) (part 1 [] (raw (open_of third)) none))))) (record { at = at; kind = kind.If; nesting = 1; outer = outer; inner = inner }) n
choice_is at first second third arms outer inner e f g n =
    let all : outer ≡ raw_part (open_form.Datum first) ∷ raw_part second ∷ raw_part third ∷ [] = f ∙ ap (λ arms. raw_part (open_form.Datum first) ∷ arms) e in
    let mid : node_mid (made_if at outer inner) ≡ node_mid (made_if at (raw_part (open_form.Datum first) ∷ raw_part second ∷ raw_part third ∷ []) []) = ap (λ outer. node_mid (made_if at outer inner)) all ∙ ap (λ inner. node_mid (made_if at (raw_part (open_form.Datum first) ∷ raw_part second ∷ raw_part third ∷ []) inner)) g in
    record {
      is = ap (becomes n) (sym mid);
      nests = sym (ap mid_nesting mid);
    }
