use Rattle.std.proofs.Common.{◌≡◌, map, drop}
use Rattle.std.specs.List.{list_any}
use Rattle.resolver.specs.BuiltHeads.{ImportTree, is_word, imports_itself}
use Rattle.resolver.specs.Trees.{import_tree, head_tree}
use Rattle.resolver.proofs.built_head.BuiltHead.imports_itself.Given as goal

abbrev pub invariant-loop-item : goal.invariant-loop-item
invariant-loop-item l =
    imports_itself (head_tree l.self) ≡ list_any (λ (i : ImportTree). is_word i.module_name l.self.name) (map import_tree (drop l.item-index l.item-items))
