use Rattle.std.proofs.Common.{◌≡◌, take}
use Rattle.c_machine.specs.Decoded.{function_names, definitions}
use Rattle.c_machine.proofs.names.names_of_functions.Given as goal

abbrev pub invariant-loop-item : goal.invariant-loop-item
invariant-loop-item l = l.names ≡ function_names (definitions (take l.item-index l.items))
