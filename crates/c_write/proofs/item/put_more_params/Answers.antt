use Rattle.c_tree.specs.Spelling.{more_params}
use Rattle.c_write.specs.Adds.{apart}
use Rattle.c_write.proofs.Lists.{adds_more, adds_all, more_params-append, named_var_at}
use Rattle.c_write.proofs.Adding.{adds_both, adds_none}
use Rattle.c_write.proofs.item.put_more_params.Goals as goal

pub loop-param-init : goal.loop-param-init
loop-param-init c = adds_none apart c.args.out.now

pub put_variable-requires : goal.put_variable-requires
put_variable-requires c = named_var_at c.args.params.now c.loop-param.param-index c.param-item.result c.requires c.loop-param-test.true c.param-item.is

pub loop-param-preserved : goal.loop-param-preserved
loop-param-preserved c = adds_more more_params more_params-append c.args.params.now c.loop-param.param-index c.param-item.result c.loop-param-test.true c.param-item.is c.loop-param.invariant (adds_both c.in_ok-put_comma.ensures c.in_ok-put_variable.ensures)

pub returns : goal.returns
returns c = adds_all more_params c.args.params.now c.loop-param.param-index c.loop-param-test.false c.loop-param.invariant
