use Rattle.c_tree.specs.Spelling.{more_arguments}
use Rattle.c_write.specs.Adds.{apart}
use Rattle.c_write.proofs.Lists.{adds_more, adds_all, more_arguments-append, named_argument_at}
use Rattle.c_write.proofs.Adding.{adds_both, adds_none}
use Rattle.c_write.proofs.statement.put_more_arguments.Goals as goal

pub loop-argument-init : goal.loop-argument-init
loop-argument-init c = adds_none apart c.args.out.now

pub put_argument-requires : goal.put_argument-requires
put_argument-requires c = named_argument_at c.args.arguments.now c.loop-argument.argument-index c.argument-item.result c.requires c.loop-argument-test.true c.argument-item.is

pub loop-argument-preserved : goal.loop-argument-preserved
loop-argument-preserved c = adds_more more_arguments more_arguments-append c.args.arguments.now c.loop-argument.argument-index c.argument-item.result c.loop-argument-test.true c.argument-item.is c.loop-argument.invariant (adds_both c.in_ok-put_comma.ensures c.in_ok-put_argument.ensures)

pub returns : goal.returns
returns c = adds_all more_arguments c.args.arguments.now c.loop-argument.argument-index c.loop-argument-test.false c.loop-argument.invariant
