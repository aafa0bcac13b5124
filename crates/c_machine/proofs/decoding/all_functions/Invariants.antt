use Rattle.std.proofs.Common.{◌≡◌, take}
use Rattle.c_machine.specs.Decoded.{functions_of, definitions}
use Rattle.c_machine.proofs.decoding.all_functions.Given as goal

abbrev pub invariant-loop-item : goal.invariant-loop-item
invariant-loop-item l = l.functions ≡ functions_of l.funs (definitions (take l.item-index l.items))
