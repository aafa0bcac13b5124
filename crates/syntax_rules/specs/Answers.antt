-- What refuses rules or a use of them.
use Rattle.std.specs.Prelude.{◌≡◌, ℕ, ◌<◌, ◌≤◌, Option, Some, None}
use Rattle.std.specs.declared.result.Result.{Result}
use Rattle.std.specs.declared.result.Result.TheVariants.{Ok, Err}
use Rattle.scheme_data.specs.Forms.{Form, form, form_place, form_size}
use Rattle.scheme_data.specs.declared.datum.Datum.{Datum}
use Rattle.scheme_data.specs.declared.datum.Place.{Place}
use Rattle.scheme_data.specs.declared.datum.LimitKind.TheVariants.{Filled}
use Rattle.syntax_rules.specs.declared.error.RulesErr.{RulesErr}
use Rattle.syntax_rules.specs.declared.error.RulesErr.TheVariants.{BadRules, NoRule, Limit, Memory}
use Rattle.syntax_rules.specs.Macros.{macro_of}

-- there is one, and it has more data than so many
abbrev pub HasMore : ℕ → Option Form → Type 0
HasMore most None = ⊥
HasMore most (Some d) = most < form_size d

abbrev pub RefusesRules : Form → RulesErr → Type 0
RefusesRules d (BadRules at) = (at ≡ form_place d) × (macro_of d ≡ None)
RefusesRules d (NoRule at) = ⊥
RefusesRules d (Limit kind) = ⊥
RefusesRules d Memory = Unit {0}

-- what a use at a place becomes is answered; that it becomes nothing; or that it has more data than may be
abbrev pub Expands : Option Form → Place → ℕ → Result Datum RulesErr → Type 0
Expands o at most (Ok d) = (o ≡ Some (form d)) × (form_size (form d) ≤ most)
Expands o at most (Err (NoRule p)) = (p ≡ at) × (o ≡ None)
Expands o at most (Err (Limit kind)) = (kind ≡ Filled) × HasMore most o
Expands o at most (Err Memory) = Unit {0}
Expands o at most (Err (BadRules p)) = ⊥
