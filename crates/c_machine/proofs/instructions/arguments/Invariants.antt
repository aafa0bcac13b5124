use Rattle.std.proofs.Common.{◌≡◌, map, take}
use Rattle.c_machine.specs.Decoded.{operand_in}
use Rattle.c_machine.proofs.instructions.arguments.Given as goal

abbrev pub invariant-loop-a : goal.invariant-loop-a
invariant-loop-a l = l.operands ≡ map (operand_in l.names) (take l.a-index l.a-items)
