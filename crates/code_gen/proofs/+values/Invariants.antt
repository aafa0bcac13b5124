use Rattle.std.proofs.Common.{◌*◌, ◌+◌, map}
use Rattle.core_tree.specs.Tree.{tree, trees}
use Rattle.code_gen.specs.Emission.{types_of}
use Rattle.code_gen.specs.Settings.{setting}
use Rattle.code_gen.proofs.Shapes.{weight, weights}
use Rattle.code_gen.proofs.Values.{Arguing}
use Rattle.code_gen.proofs.+values.Given as goal

abbrev pub decreases-nodes::value : goal.decreases-nodes::value
decreases-nodes::value l = 5 * weight (tree l.node.now) + 1

abbrev pub decreases-nodes::delivered : goal.decreases-nodes::delivered
decreases-nodes::delivered l = 5 * weight (tree l.node.now)

abbrev pub decreases-branches::tested : goal.decreases-branches::tested
decreases-branches::tested l = 5 * weight (tree l.test.now) + 2

abbrev pub decreases-branches::branches : goal.decreases-branches::branches
decreases-branches::branches l = 5 * (weight (tree l.test.now) + (weight (tree l.first.now) + weight (tree l.second.now))) + 4

abbrev pub decreases-calls::primitive_call : goal.decreases-calls::primitive_call
decreases-calls::primitive_call l = 5 * weights (trees (map tree l.nodes.now)) + 4

abbrev pub decreases-calls::function_call : goal.decreases-calls::function_call
decreases-calls::function_call l = 5 * weights (trees (map tree l.nodes.now)) + 4

abbrev pub decreases-calls::ready : goal.decreases-calls::ready
decreases-calls::ready l = 5 * weights (trees (map tree l.nodes.now)) + 3

abbrev pub decreases-calls::arguments : goal.decreases-calls::arguments
decreases-calls::arguments l = 5 * weights (trees (map tree l.nodes.now)) + 2

abbrev pub invariant-calls::arguments-loop-i : goal.invariant-calls::arguments-loop-i
invariant-calls::arguments-loop-i l = Arguing (setting l.ctx) l.fn.e l.e (types_of l.wanted) l.nodes l.held l.i
