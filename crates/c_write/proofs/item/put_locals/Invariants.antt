use Rattle.std.proofs.Common.{take}
use Rattle.c_tree.specs.Spelling.{local_tokens}
use Rattle.c_write.specs.Adds.{Adds, anything}
use Rattle.c_write.proofs.item.put_locals.Given as goal

abbrev pub invariant-loop-local : goal.invariant-loop-local
invariant-loop-local l = Adds anything anything l.fn.out l.out (local_tokens (take l.local-index l.locals))
