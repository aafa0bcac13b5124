-- The code's macros and heads of forms.
use Rattle.std.specs.Prelude.{ℕ, List, map, Option, Some, None, Result, Err}
use Rattle.std.specs.Borrow.{Bor}
use Rattle.scheme_data.specs.declared.datum.Datum.{Datum}
use Rattle.scheme_data.specs.declared.datum.LimitKind.TheVariants as limit
use Rattle.syntax_rules.specs.Trees as trees
use Rattle.syntax_rules.specs.Views.{the_macro}
use Rattle.syntax_rules.specs.declared.rules.Rules.{Rules}
use Rattle.syntax_rules.specs.declared.error.RulesErr.{RulesErr}
use Rattle.syntax_rules.specs.declared.error.RulesErr.TheVariants as rules_err
use Rattle.core_forms.specs.Scope.{Meaning, macro, special, plain}
use Rattle.core_forms.specs.declared.error.ExpandErr.{ExpandErr}
use Rattle.core_forms.specs.declared.error.ExpandErr.TheVariants as fault
use Rattle.expansion_steps.specs.declared.heads.Head.{Head}
use Rattle.expansion_steps.specs.declared.heads.Head.TheVariants as head

abbrev pub meaning_of : Head → Meaning
meaning_of (head.Macro r) = macro (the_macro r.now)
meaning_of (head.Special k) = special k
meaning_of head.Plain = plain

abbrev pub macro_name : Rules → List ℕ
macro_name r = (the_macro r).name

abbrev pub macros_of : List Rules → List trees.Macro
macros_of rs = map the_macro rs

abbrev pub some_macro : Option (Bor Rules) → Option trees.Macro
some_macro None = None
some_macro (Some r) = Some (the_macro r.now)

abbrev pub refusal_of : RulesErr → ExpandErr
refusal_of (rules_err.BadRules at) = fault.BadRules at
refusal_of (rules_err.NoRule at) = fault.NoRule at
refusal_of (rules_err.Limit kind) = fault.Limit kind
refusal_of rules_err.Memory = fault.Memory

-- where no use may be expanded any more; one that matches no rule stays that
abbrev pub spent_by : Result Datum RulesErr → ExpandErr
spent_by (Err (rules_err.NoRule at)) = fault.NoRule at
spent_by (Err rules_err.Memory) = fault.Memory
spent_by _ = fault.Limit limit.Expansions
