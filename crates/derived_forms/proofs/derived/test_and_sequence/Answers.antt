use Rattle.derived_forms.proofs.ClauseSteps.{not_empty}
use Rattle.derived_forms.proofs.RowSteps.{test_parts}
use Rattle.derived_forms.proofs.derived.test_and_sequence.Goals as goal

pub returns : goal.returns
returns c = test_parts c.args.at c.args.forms c.in-Some.test c.pop.new.self c.in_ok-items.items c.in_ok-action.action (c.in-Some.ensures {u = tt}) (not_empty _ _ c.if-is_empty.false c.is_empty.ensures) (c.in_ok-items.ensures {u = tt}) (c.in_ok-action.ensures {u = tt})
