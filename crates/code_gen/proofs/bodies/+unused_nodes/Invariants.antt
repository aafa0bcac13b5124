use Rattle.std.proofs.Common.{◌*◌, ◌+◌}
use Rattle.core_tree.specs.Tree.{tree}
use Rattle.code_gen.proofs.Shapes.{weight}
use Rattle.code_gen.proofs.bodies.+unused_nodes.Given as goal

abbrev pub decreases-unused : goal.decreases-unused
decreases-unused l = 2 * weight (tree l.node.now)

abbrev pub decreases-unused_branches : goal.decreases-unused_branches
decreases-unused_branches l = 2 * (weight (tree l.test.now) + (weight (tree l.first.now) + weight (tree l.second.now))) + 1
