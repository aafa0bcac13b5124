-- Why a source is refused by itself, phase by phase: its fault where it isn't read, then the first breach of its head, then the first breach of its expansion,
-- where a macro that is written with bad rules comes before all others.
use Rattle.std.specs.Prelude.{◌≡◌, ◌⊎◌, ℕ, List, [], ◌∷◌, map, Option, Some, None, Result, Ok, Err}
use Rattle.scheme_data.specs.Data.{AreProper, plain_all}
use Rattle.scheme_data.specs.Forms.{Form, Forms, form, forms}
use Rattle.scheme_data.specs.declared.datum.Datum.{Datum}
use Rattle.scheme_data.specs.declared.datum.Place.{Place}
use Rattle.scheme_read.specs.declared.error.ReadErr.TheVariants as reading
use Rattle.scheme_read.specs.Answers.{IsSource, IsFault}
use Rattle.module_head.specs.declared.head.Head.{Head}
use Rattle.module_head.specs.Heads.{Outcome, header, duplicate, right, wrong_at_first, head_of}
use Rattle.core_forms.specs.Modules.{TopTree, Expands, IsRefused}
use Rattle.core_forms.specs.declared.error.ExpandErr.{ExpandErr}
use Rattle.core_forms.specs.declared.error.ExpandErr.TheVariants as expansion
use Rattle.unit_compile.specs.declared.error.UnitErr.{UnitErr}
use Rattle.unit_compile.specs.declared.error.UnitErr.TheVariants as unit
use Rattle.unit_compile.specs.declared.error.UnitErr.TheVariants.{Syntax, Limit, Header, Duplicate, BadRules, NoRule, NotBuilt, Memory}

abbrev pub first_form : List Datum → Option Form
first_form [] = None
first_form (d ∷ ds) = Some (form d)

-- the head of a source's data
abbrev pub head_in : List Datum → Outcome
head_in forms = head_of (first_form forms)

-- the forms behind the head
abbrev pub behind_head : List Datum → Forms
behind_head [] = forms []
behind_head (d ∷ ds) = forms (map form ds)

-- nothing in the data by themselves is refused
pub record AreRight (source : List Datum) : Type 0 where
  pub head : Head
  pub is_head : head_in source ≡ right head
  pub core : List TopTree
  pub expands : Expands (behind_head source) core

-- the head is right, and this is the first breach of expanding what stands behind it
pub record IsBreach (source : List Datum) (breach : ExpandErr) : Type 0 where
  pub head : Head
  pub is_head : head_in source ≡ right head
  pub stops : IsRefused (behind_head source) breach

-- the data are refused for this
abbrev pub AreRefused : List Datum → UnitErr → Type 0
AreRefused source (Header at) = head_in source ≡ wrong_at_first (header at)
AreRefused source (Duplicate name) = head_in source ≡ wrong_at_first (duplicate name)
AreRefused source (BadRules at) = IsBreach source (expansion.BadRules at)
AreRefused source (NoRule at) = IsBreach source (expansion.NoRule at)
AreRefused source (unit.Form at) = IsBreach source (expansion.Form at)
AreRefused source (Limit kind) = IsBreach source (expansion.Limit kind)
AreRefused source (Syntax at) = ⊥
AreRefused source NotBuilt = ⊥
AreRefused source Memory = ⊥

-- the source is read as data of which this holds
pub record IsReadAs (source : List ℕ) (P : List Datum → Type 0) : Type 0 where
  pub forms : List Datum
  pub read : IsSource source forms
  pub holds : P forms

-- the source is refused for this, whatever interfaces there are
abbrev pub IsRefusal : List ℕ → UnitErr → Type 0
IsRefusal source (Syntax at) = IsFault source (reading.Syntax at)
IsRefusal source (Limit kind) = ((at : Place) × IsFault source (reading.Limit kind at)) ⊎ IsReadAs source (λ forms. AreRefused forms (Limit kind))
IsRefusal source (Header at) = IsReadAs source (λ forms. AreRefused forms (Header at))
IsRefusal source (Duplicate name) = IsReadAs source (λ forms. AreRefused forms (Duplicate name))
IsRefusal source (BadRules at) = IsReadAs source (λ forms. AreRefused forms (BadRules at))
IsRefusal source (NoRule at) = IsReadAs source (λ forms. AreRefused forms (NoRule at))
IsRefusal source (unit.Form at) = IsReadAs source (λ forms. AreRefused forms (unit.Form at))
IsRefusal source NotBuilt = ⊥
IsRefusal source Memory = ⊥

-- this refusal is answered, unless memory runs out
abbrev pub Refuses : {A : Type 0} → UnitErr → Result A UnitErr → Type 0
Refuses refusal (Ok a) = ⊥
Refuses refusal (Err (Syntax at)) = Syntax at ≡ refusal
Refuses refusal (Err (Limit kind)) = Limit kind ≡ refusal
Refuses refusal (Err (Header at)) = Header at ≡ refusal
Refuses refusal (Err (Duplicate name)) = Duplicate name ≡ refusal
Refuses refusal (Err (BadRules at)) = BadRules at ≡ refusal
Refuses refusal (Err (NoRule at)) = NoRule at ≡ refusal
Refuses refusal (Err (unit.Form at)) = unit.Form at ≡ refusal
Refuses refusal (Err NotBuilt) = ⊥
Refuses refusal (Err Memory) = Unit {0}

-- what the phases behind reading that look at the data alone answer
abbrev pub ChecksAs : List Datum → Result (Unit {0}) UnitErr → Type 0
ChecksAs forms (Ok u) = AreRight forms
ChecksAs forms (Err (Syntax at)) = ⊥
ChecksAs forms (Err (Limit kind)) = AreRefused forms (Limit kind)
ChecksAs forms (Err (Header at)) = AreRefused forms (Header at)
ChecksAs forms (Err (Duplicate name)) = AreRefused forms (Duplicate name)
ChecksAs forms (Err (BadRules at)) = AreRefused forms (BadRules at)
ChecksAs forms (Err (NoRule at)) = AreRefused forms (NoRule at)
ChecksAs forms (Err (unit.Form at)) = AreRefused forms (unit.Form at)
ChecksAs forms (Err NotBuilt) = ⊥
ChecksAs forms (Err Memory) = Unit {0}

-- the data of a source of which nothing is refused
pub record AreForms (source : List ℕ) (forms : List Datum) : Type 0 where
  pub read : IsSource source forms
  pub read_once : (others : List Datum) → IsSource source others → forms ≡ others
  pub are_right : AreRight forms
  pub proper : AreProper (plain_all forms)

-- what reading a source answers, with all phases that look at it alone
abbrev pub FormsAs : List ℕ → Result (List Datum) UnitErr → Type 0
FormsAs source (Ok forms) = AreForms source forms
FormsAs source (Err (Syntax at)) = IsRefusal source (Syntax at)
FormsAs source (Err (Limit kind)) = IsRefusal source (Limit kind)
FormsAs source (Err (Header at)) = IsRefusal source (Header at)
FormsAs source (Err (Duplicate name)) = IsRefusal source (Duplicate name)
FormsAs source (Err (BadRules at)) = IsRefusal source (BadRules at)
FormsAs source (Err (NoRule at)) = IsRefusal source (NoRule at)
FormsAs source (Err (unit.Form at)) = IsRefusal source (unit.Form at)
FormsAs source (Err NotBuilt) = ⊥
FormsAs source (Err Memory) = Unit {0}
