use Rattle.std.proofs.Common.{◌≡◌, ◌++◌, map, reverse, length}
use Rattle.resolver.specs.Trees.{import_tree}
use Rattle.resolver.specs.Elaboration.{import_item}
use Rattle.resolver.proofs.resolve.import_items.Given as goal

abbrev pub invariant-loop-import : goal.invariant-loop-import
invariant-loop-import l = map import_item (map import_tree l.fn.imports) ≡ map import_item (map import_tree (reverse l.rest)) ++ l.items

abbrev pub decreases-loop-import : goal.decreases-loop-import
decreases-loop-import l = length l.rest
