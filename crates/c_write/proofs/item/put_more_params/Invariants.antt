use Rattle.std.proofs.Common.{take}
use Rattle.c_tree.specs.Spelling.{more_params}
use Rattle.c_write.specs.Adds.{Adds, apart}
use Rattle.c_write.proofs.item.put_more_params.Given as goal

abbrev pub invariant-loop-param : goal.invariant-loop-param
invariant-loop-param l = Adds apart apart l.fn.out l.out (more_params (take l.param-index l.params))
