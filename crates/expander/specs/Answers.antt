-- What expanding a module answers.
use Rattle.std.specs.Prelude.{◌≡◌, List, map, Result, Ok, Err}
use Rattle.scheme_data.specs.declared.datum.Datum.{Datum}
use Rattle.scheme_data.specs.Forms.{Forms, form, forms}
use Rattle.core_forms.specs.Modules.{TopTree, top_tree, Expands, IsRefused}
use Rattle.core_forms.specs.declared.core_form.Core.{Core}
use Rattle.core_forms.specs.declared.error.ExpandErr.{ExpandErr}
use Rattle.core_forms.specs.declared.error.ExpandErr.TheVariants.{Memory}

abbrev pub module_of : List Datum → Forms
module_of ds = forms (map form ds)

abbrev pub core_trees : Core → List TopTree
core_trees c = map top_tree c.forms

-- what is answered is what the module becomes, and what refuses it is its first breach
abbrev pub Answer : Forms → Result Core ExpandErr → Type 0
Answer ds (Ok c) = Expands ds (core_trees c)
Answer ds (Err Memory) = Unit {0}
Answer ds (Err e) = IsRefused ds e

-- unless memory runs out
abbrev pub Gives : List TopTree → Result Core ExpandErr → Type 0
Gives ts (Ok c) = core_trees c ≡ ts
Gives ts (Err Memory) = Unit {0}
Gives ts (Err e) = ⊥

abbrev pub Refuses : ExpandErr → Result Core ExpandErr → Type 0
Refuses e (Ok c) = ⊥
Refuses e (Err Memory) = Unit {0}
Refuses e (Err f) = f ≡ e
