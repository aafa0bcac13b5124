use Rattle.std.proofs.Common.{◌≡◌, ◌++◌, map, take}
use Rattle.c_machine.specs.Steps.{look}
use Rattle.c_machine.proofs.calling.push_values.Given as goal

abbrev pub invariant-loop-from : goal.invariant-loop-from
invariant-loop-from l = l.slots.items ≡ l.initial.slots.items ++ map (look l.base l.initial.slots.items) (take l.from-index l.args)
