use Rattle.derived_forms.proofs.ClauseSteps.{not_empty}
use Rattle.derived_forms.proofs.RowSteps.{and_more}
use Rattle.derived_forms.proofs.derived.and.Goals as goal

pub returns : goal.returns
returns c = λ n. and_more n c.args.at c.args.forms c.in-Some.first c.pop.new.self (c.in-Some.ensures {u = tt}) (not_empty _ _ c.if-is_empty.false c.is_empty.ensures)
