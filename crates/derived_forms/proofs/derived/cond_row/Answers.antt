use Rattle.std.proofs.Common.{ap}
use Rattle.derived_forms.specs.Clauses.{the_clause}
use Rattle.derived_forms.proofs.ClauseSteps.{not_empty}
use Rattle.derived_forms.proofs.RowSteps.{else_refused}
use Rattle.derived_forms.proofs.derived.cond_row.Goals as goal

pub returns-then-not-is_empty : goal.returns-then-not-is_empty
returns-then-not-is_empty c = else_refused c.args.n.now c.args.at (the_clause c.args.clause) _ c.args.forms (ap the_clause c.in-Otherwise.is) (not_empty _ _ c.if-not-is_empty.true c.is_empty.ensures)
