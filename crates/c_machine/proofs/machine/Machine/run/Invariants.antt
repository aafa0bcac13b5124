use Rattle.std.proofs.Common.{◌≤◌}
use Rattle.c_tree.specs.Functions.{items_of}
use Rattle.c_meaning.specs.Program.{cm}
use Rattle.c_machine.specs.Steps.{config_of}
use Rattle.c_machine.proofs.Means.{work}
use Rattle.c_machine.proofs.Runs.{Goes_on}
use Rattle.c_machine.proofs.machine.Machine.run.Given as goal

abbrev pub invariant-steps : goal.invariant-steps
invariant-steps g l = record {
  goes : Goes_on l.fn.self.items (config_of l.regs l.stacks l.acc.value) (cm (items_of l.fn.self.items) l.input l.args l.turns) (g.K.Sink.written l.initial.out) (g.K.Sink.written l.out);
  later : g.K.Sink.faults l.initial.out ≤ g.K.Sink.faults l.out;
}

abbrev pub decreases-steps : goal.decreases-steps
decreases-steps g l = work l.funs (config_of l.regs l.stacks l.acc.value)
