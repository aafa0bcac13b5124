use Rattle.std.proofs.Common.{take}
use Rattle.c_tree.specs.Spelling.{more_types}
use Rattle.c_write.specs.Adds.{Adds, apart}
use Rattle.c_write.proofs.item.put_more_types.Given as goal

abbrev pub invariant-loop-ty : goal.invariant-loop-ty
invariant-loop-ty l = Adds apart apart l.fn.out l.out (more_types (take l.ty-index l.types))
