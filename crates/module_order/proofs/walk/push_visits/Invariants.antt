use Rattle.std.proofs.Common.{◌≡◌, drop}
use Rattle.module_order.specs.Tasks.{visits}
use Rattle.module_order.proofs.walk.push_visits.Given as goal

abbrev pub invariant-loop-i : goal.invariant-loop-i
invariant-loop-i l = l.tasks ≡ visits (drop l.i l.modules) l.fn.tasks
