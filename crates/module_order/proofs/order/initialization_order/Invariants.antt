use Rattle.module_order.specs.Tasks.{state}
use Rattle.module_order.proofs.Left.{left}
use Rattle.module_order.proofs.Walking.{Stands}
use Rattle.module_order.proofs.order.initialization_order.Given as goal

abbrev pub invariant-loop-task : goal.invariant-loop-task
invariant-loop-task l = Stands l.imports l.root (state l.walk)

abbrev pub decreases-loop-task : goal.decreases-loop-task
decreases-loop-task l = left l.imports (state l.walk)
