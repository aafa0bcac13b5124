use Rattle.expander.proofs.TopForms.{from_first_is}
use Rattle.expander.proofs.module.from_first.Goals as goal

pub returns : goal.returns
returns c = from_first_is c.args.tops c.into_stack.result c.into_list.result c.into_stack-2.result c.into_stack.ensures c.into_list.ensures c.into_stack-2.ensures
