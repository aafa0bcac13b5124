-- Nodes, one layer at a time.
use Rattle.std.proofs.Common.{◌≡◌, List, map, rules}
use Rattle.core_tree.specs.declared.tree.Node.{Node}
use Rattle.core_tree.specs.declared.tree.Node as node_of
use Rattle.core_tree.specs.declared.tree.Node.TheVariants as node
use Rattle.core_tree.specs.Tree.{If, Sequence, trees, tree}

pub tree_if : (a b c : Node) → tree (node.If a b c) ≡ If (tree a) (tree b) (tree c)
tree_if a b c = search (rules, node_of.the_lemmas)

pub tree_sequence : (ns : List Node) → tree (node.Sequence ns) ≡ Sequence (trees (map tree ns))
tree_sequence ns = search (rules, node_of.the_lemmas)
