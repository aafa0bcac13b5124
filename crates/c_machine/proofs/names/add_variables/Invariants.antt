use Rattle.std.proofs.Common.{◌≡◌, ◌++◌, take}
use Rattle.c_machine.specs.Decoded.{variable_names}
use Rattle.c_machine.proofs.names.add_variables.Given as goal

abbrev pub invariant-loop-v : goal.invariant-loop-v
invariant-loop-v l = l.names ≡ l.initial.names ++ variable_names (take l.v-index l.vars)
