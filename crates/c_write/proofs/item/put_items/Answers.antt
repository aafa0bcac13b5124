use Rattle.c_write.proofs.Lists.{all_tokens}
use Rattle.c_write.specs.Adds.{anything}
use Rattle.c_write.proofs.Lists.{adds_more, adds_all, all_tokens-append, named_item_at}
use Rattle.c_write.proofs.Adding.{adds_none}
use Rattle.c_write.proofs.item.put_items.Goals as goal

pub loop-item-init : goal.loop-item-init
loop-item-init c = adds_none anything c.args.out.now

pub put_item-requires : goal.put_item-requires
put_item-requires c = named_item_at c.args.items.now c.loop-item.item-index c.item-item.result c.requires c.loop-item-test.true c.item-item.is

pub loop-item-preserved : goal.loop-item-preserved
loop-item-preserved c = adds_more all_tokens all_tokens-append c.args.items.now c.loop-item.item-index c.item-item.result c.loop-item-test.true c.item-item.is c.loop-item.invariant (c.in_ok-put_item.ensures)

pub returns : goal.returns
returns c = adds_all all_tokens c.args.items.now c.loop-item.item-index c.loop-item-test.false c.loop-item.invariant
