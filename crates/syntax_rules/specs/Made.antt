-- What a call that fills adds, and how many data may be made behind it.
use Rattle.std.specs.Prelude.{◌≡◌, ℕ, ◌+◌, ◌<◌, List, ◌++◌, map}
use Rattle.std.specs.declared.result.Result.{Result}
use Rattle.std.specs.declared.result.Result.TheVariants.{Ok, Err}
use Rattle.scheme_data.specs.Forms.{Form, form, forms, forms_size}
use Rattle.scheme_data.specs.declared.datum.Datum.{Datum}
use Rattle.scheme_data.specs.declared.datum.LimitKind.TheVariants.{Filled}
use Rattle.syntax_rules.specs.declared.error.RulesErr.{RulesErr}
use Rattle.syntax_rules.specs.declared.error.RulesErr.TheVariants.{BadRules, NoRule, Limit, Memory}

-- the data are added where so many may be made, and there are more where they aren't
abbrev pub Made : List Form → ℕ → List Datum → List Datum → Result ℕ RulesErr → Type 0
Made ds left old new (Ok rest) = (map form new ≡ map form old ++ ds) × (left ≡ forms_size (forms ds) + rest)
Made ds left old new (Err (Limit kind)) = (kind ≡ Filled) × (left < forms_size (forms ds))
Made ds left old new (Err Memory) = Unit {0}
Made ds left old new (Err (BadRules at)) = ⊥
Made ds left old new (Err (NoRule at)) = ⊥

-- how many are left behind so many, or that there are too many
abbrev pub Leaves : ℕ → ℕ → Result ℕ RulesErr → Type 0
Leaves n left (Ok rest) = left ≡ n + rest
Leaves n left (Err (Limit kind)) = (kind ≡ Filled) × (left < n)
Leaves n left (Err Memory) = ⊥
Leaves n left (Err (BadRules at)) = ⊥
Leaves n left (Err (NoRule at)) = ⊥
