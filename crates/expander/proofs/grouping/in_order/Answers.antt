use Rattle.std.proofs.Common.{◌∙◌}
use Rattle.expander.proofs.Groups.{one_more_in_order, in_order_first}
use Rattle.expander.proofs.grouping.in_order.Goals as goal

pub taken-preserved : goal.taken-preserved
taken-preserved c = one_more_in_order c.taken.binders c.push.new.self c.pop.new.self c.taken.names c.in-Some.binder c.in-Some.ensures (c.in_ok-push.ensures {u = tt}).ok ∙ c.taken.invariant

pub returns : goal.returns
returns c = in_order_first c.taken.binders c.taken.names c.args.names c.taken.invariant c.in_default.ensures.0
