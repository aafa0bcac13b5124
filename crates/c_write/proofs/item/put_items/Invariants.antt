use Rattle.std.proofs.Common.{take}
use Rattle.c_write.proofs.Lists.{all_tokens}
use Rattle.c_write.specs.Adds.{Adds, anything}
use Rattle.c_write.proofs.item.put_items.Given as goal

abbrev pub invariant-loop-item : goal.invariant-loop-item
invariant-loop-item l = Adds anything anything l.fn.out l.out (all_tokens (take l.item-index l.items))
