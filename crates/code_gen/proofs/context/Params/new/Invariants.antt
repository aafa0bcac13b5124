use Rattle.std.proofs.Common.{drop, length, ◌≤◌}
use Rattle.code_gen.specs.Scopes.{HasLocals}
use Rattle.code_gen.proofs.context.Params.new.Given as goal

abbrev pub invariant-loop-i : goal.invariant-loop-i
invariant-loop-i l = record { within : l.i ≤ length l.params; has : HasLocals l.locals l.i (drop l.i l.params) }

abbrev pub decreases-loop-i : goal.decreases-loop-i
decreases-loop-i l = l.i
