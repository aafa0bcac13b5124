-- What the code takes apart before it makes core forms.
use Rattle.std.specs.Prelude.{◌≡◌, ℕ, Bool, true, false, List, [], ◌∷◌, Option, Some, None}
use Rattle.scheme_data.specs.declared.datum.Place.{Place}
use Rattle.scheme_data.specs.declared.datum.Datum.{Datum}
use Rattle.scheme_data.specs.Forms.{Form, Forms, listed, end, next, form, form_place}
use Rattle.core_forms.specs.Names.{are_pairs, seconds, names_of}
use Rattle.core_forms.specs.Code.{data_of}
use Rattle.core_forms.specs.declared.core_form.Binder.{Binder}
use Rattle.core_forms.specs.declared.binders.Pair.{Pair}
use Rattle.core_forms.specs.declared.core_rows.Scoped.{Scoped}
use Rattle.core_forms.specs.declared.core_rows.LetParts.{LetParts}

-- `(name value)`
abbrev pub PairAs : Form → Option Pair → Type 0
PairAs d None = are_pairs (next d end) ≡ false
PairAs d (Some p) = d ≡ listed (form_place d) (next (form p.name) (next (form p.value) end))

-- a list, and one form or more behind it
abbrev pub is_scoped : Forms → Bool
is_scoped (next (listed p xs) (next b bs)) = true
is_scoped ds = false

pub record IsScoped (ds : Forms) (list body : List Datum) : Type 0 where
  pub place : Place
  pub is : ds ≡ next (listed place (data_of list)) (data_of body)
  pub some : body ≡ [] → ⊥

abbrev pub ScopedAs : Forms → Option Scoped → Type 0
ScopedAs ds None = is_scoped ds ≡ false
ScopedAs ds (Some s) = IsScoped ds s.list s.body

pub record AreParts (types : Bool) (ds : Forms) (binders : List Binder) (values : List Datum) : Type 0 where
  pub names : names_of types ds ≡ Some binders
  pub values_are : seconds ds ≡ data_of values

-- the names and values of bindings, where these are well formed
abbrev pub PartsAs : Bool → Forms → Option LetParts → Type 0
PartsAs types ds None = names_of types ds ≡ None
PartsAs types ds (Some p) = AreParts types ds p.binders p.values

-- how deep lists nest in bindings: a value stands in three
abbrev pub binding_nesting : List Datum → ℕ
binding_nesting [] = 2
binding_nesting (d ∷ ds) = 3
