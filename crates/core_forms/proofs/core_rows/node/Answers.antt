use Rattle.core_forms.proofs.Rows.{is-raws}
use Rattle.core_forms.proofs.core_rows.node.Goals as goal

pub returns : goal.returns
returns c = λ n. is-raws c.args.at c.args.kind c.args.forms n c.in_ok-raws_node.field-0 c.in_ok-raws_node.ensures c.requires.flat c.requires.some
