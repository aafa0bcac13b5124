-- What is answered for the forms behind the word of a special form.
use Rattle.std.specs.Prelude.{◌≡◌, Bool, true, false, List, Result, Ok, Err}
use Rattle.scheme_data.specs.declared.datum.Datum.{Datum}
use Rattle.scheme_data.specs.declared.datum.Place.{Place}
use Rattle.scheme_data.specs.Forms.{Forms, symbol, next}
use Rattle.core_forms.specs.Table.{Row, means, as_it_is}
use Rattle.core_forms.specs.Code.{data_of, Refusing}
use Rattle.core_forms.specs.Working.{open_of, IsWrong, MeansAs}
use Rattle.core_forms.specs.declared.counting.Counts.{Counts}
use Rattle.core_forms.specs.declared.error.ExpandErr.{ExpandErr}
use Rattle.core_forms.specs.declared.work.Open.{Open}
use Rattle.derived_forms.specs.declared.derived.Derived.{Derived}
use Rattle.derived_forms.specs.declared.derived.Derived.TheVariants as row

abbrev pub begins_with_symbol : Forms → Bool
begins_with_symbol (next (symbol at x m) ds) = true
begins_with_symbol ds = false

-- a `let` with a name in front
abbrev pub NamedLets : Row → Place → List Datum → Counts → Result Open ExpandErr → Counts → Type 0
NamedLets r at ds before res after = begins_with_symbol (data_of ds) ≡ true → MeansAs r at before res after

pub record IsCore (r : Row) (ds forms : List Datum) (before after : Counts) : Type 0 where
  pub is : r ≡ as_it_is
  pub same : after ≡ before
  pub forms_same : forms ≡ ds

-- a form in place of it, a core form as it is, or a form that is none
abbrev pub DerivedAs : Row → Place → List Datum → Counts → Result Derived ExpandErr → Counts → Type 0
DerivedAs r at ds before (Ok (row.Means o)) after = r ≡ means after (open_of o)
DerivedAs r at ds before (Ok (row.Core forms)) after = IsCore r ds forms before after
DerivedAs r at ds before (Err e) after = Refusing (IsWrong r at before after) e
