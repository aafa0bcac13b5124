use Rattle.std.proofs.Common.{◌≡◌, ◌-◌}
use Rattle.resolver.specs.Parts.{numbered_from}
use Rattle.resolver.proofs.functions.variables.Given as goal

abbrev pub invariant-loop-n : goal.invariant-loop-n
invariant-loop-n l = l.params ≡ numbered_from l.fn.first (l.n - l.fn.first)
