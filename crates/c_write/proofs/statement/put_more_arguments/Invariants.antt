use Rattle.std.proofs.Common.{take}
use Rattle.c_tree.specs.Spelling.{more_arguments}
use Rattle.c_write.specs.Adds.{Adds, apart}
use Rattle.c_write.proofs.statement.put_more_arguments.Given as goal

abbrev pub invariant-loop-argument : goal.invariant-loop-argument
invariant-loop-argument l = Adds apart apart l.fn.out l.out (more_arguments (take l.argument-index l.arguments))
