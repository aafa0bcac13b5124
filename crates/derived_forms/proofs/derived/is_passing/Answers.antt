use Rattle.derived_forms.proofs.ClauseSteps.{passing_long, passing_head}
use Rattle.derived_forms.proofs.derived.is_passing.Goals as goal

pub returns-then-items-ne2 : goal.returns-then-items-ne2
returns-then-items-ne2 c = passing_long c.args.items.now c.if-items-ne2.true

pub returns : goal.returns
returns c = passing_head c.args.items.now c.index-items-0.result c.says.result c.if-items-ne2.false c.index-items-0.is c.says.ensures
