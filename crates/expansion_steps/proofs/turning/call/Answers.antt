use Rattle.expansion_steps.proofs.Turns.{call-node, not-empty}
use Rattle.expansion_steps.proofs.turning.call.Goals as goal

pub returns : goal.returns
returns c = λ n. call-node n c.args.at c.args.items c.in_ok-forms.forms c.in_ok-node.node (not-empty c.is_empty.result c.args.items c.if-is_empty.false c.is_empty.ensures) c.in_ok-forms.ensures c.in_ok-node.ensures
