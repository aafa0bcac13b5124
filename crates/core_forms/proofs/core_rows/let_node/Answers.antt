use Rattle.core_forms.proofs.Rows.{is-let}
use Rattle.core_forms.proofs.core_rows.let_node.Goals as goal

pub returns : goal.returns
returns c = λ n. is-let c.args.at c.args.binders c.args.values c.in_ok-stacked.field-0 c.args.body n c.nesting_of.result c.in_ok-raws.field-0 c.in_ok-one_part.field-0 c.nesting_of.ensures c.in_ok-stacked.ensures c.in_ok-raws.ensures c.in_ok-one_part.ensures
