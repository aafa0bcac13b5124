use Rattle.derived_forms.proofs.ClauseSteps.{of_none, of_head}
use Rattle.derived_forms.proofs.derived.is_clause_of.Goals as goal

pub returns-then-items-lt2 : goal.returns-then-items-lt2
returns-then-items-lt2 c = of_none c.args.items.now c.args.last c.if-items-lt2.true

pub returns : goal.returns
returns c = of_head c.args.items.now c.index-items-0.result c.args.last c.begins_clause.result c.if-items-lt2.false c.index-items-0.is c.begins_clause.ensures
