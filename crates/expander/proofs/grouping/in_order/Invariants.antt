use Rattle.std.proofs.Common.{◌≡◌, ◌++◌, length}
use Rattle.expander.proofs.grouping.in_order.Given as goal

abbrev pub invariant-taken : goal.invariant-taken
invariant-taken l = l.binders ++ l.names ≡ l.initial.names

abbrev pub decreases-taken : goal.decreases-taken
decreases-taken l = length l.names
