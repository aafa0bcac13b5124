use Rattle.derived_forms.proofs.ClauseSteps.{not_empty}
use Rattle.derived_forms.proofs.RowSteps.{or_more}
use Rattle.derived_forms.proofs.derived.or.Goals as goal

pub returns : goal.returns
returns c = or_more c.args.n.now c.args.at c.args.forms c.in-Some.first c.pop.new.self c.kept.result c.kept.new.n (c.in-Some.ensures {u = tt}) (not_empty _ _ c.if-is_empty.false c.is_empty.ensures) c.kept.ensures
