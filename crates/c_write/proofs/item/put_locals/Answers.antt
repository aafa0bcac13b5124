use Rattle.c_tree.specs.Spelling.{local_tokens}
use Rattle.c_write.specs.Adds.{anything}
use Rattle.c_write.proofs.Lists.{adds_more, adds_all, local_tokens-append, named_var_at}
use Rattle.c_write.proofs.Adding.{adds_both, adds_none}
use Rattle.c_write.proofs.item.put_locals.Goals as goal

pub loop-local-init : goal.loop-local-init
loop-local-init c = adds_none anything c.args.out.now

pub put_variable-requires : goal.put_variable-requires
put_variable-requires c = named_var_at c.args.locals.now c.loop-local.local-index c.local-item.result c.requires c.loop-local-test.true c.local-item.is

pub loop-local-preserved : goal.loop-local-preserved
loop-local-preserved c = adds_more local_tokens local_tokens-append c.args.locals.now c.loop-local.local-index c.local-item.result c.loop-local-test.true c.local-item.is c.loop-local.invariant (adds_both c.in_ok-put_indent.ensures (adds_both c.in_ok-put_variable.ensures c.in_ok-put_end.ensures))

pub returns : goal.returns
returns c = adds_all local_tokens c.args.locals.now c.loop-local.local-index c.loop-local-test.false c.loop-local.invariant
