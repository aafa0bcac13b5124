use Rattle.c_check.proofs.Using.{used_all}
use Rattle.c_check.proofs.used.used_names.Goals as goal

pub returns : goal.returns
returns c = used_all c.args.items.now c.new.result c.all_stand_out.result c.loop-item.item-index c.loop-item.used c.new.ensures c.all_stand_out.ensures c.loop-item.invariant c.loop-item-test.false
