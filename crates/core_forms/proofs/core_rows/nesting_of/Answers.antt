use Rattle.std.proofs.Common.{refl}
use Rattle.std.proofs.lemmas.Bool.{false≢true}
use Rattle.core_forms.proofs.Rows.{no-values, some-values}
use Rattle.core_forms.proofs.core_rows.nesting_of.Goals as goal

pub returns-then-is_empty : goal.returns-then-is_empty
returns-then-is_empty c = no-values c.args.values.now (c.if-is_empty.ensures.0 refl)

pub returns-else-is_empty : goal.returns-else-is_empty
returns-else-is_empty c = some-values c.args.values.now (λ e. absurd (false≢true (c.if-is_empty.ensures.1 e)))
