use Rattle.std.proofs.Common.{◌≡◌, drop}
use Rattle.core_tree.specs.WellFormed.{are_ordered}
use Rattle.object_text.proofs.Orders.{ordered_after}
use Rattle.object_text.proofs.header.is_ordered.Given as goal

abbrev pub invariant-loop-used : goal.invariant-loop-used
invariant-loop-used l = are_ordered l.uses ≡ ordered_after l.needs (drop l.used-index l.uses)
