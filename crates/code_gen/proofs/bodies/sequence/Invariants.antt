use Rattle.code_gen.specs.Settings.{setting}
use Rattle.code_gen.proofs.Walks.{Walking}
use Rattle.code_gen.proofs.bodies.sequence.Given as goal

abbrev pub invariant-loop-i : goal.invariant-loop-i
invariant-loop-i l = Walking (setting l.ctx) l.fn.e l.e l.nodes l.i
