use Rattle.std.proofs.Common.{◌≡◌, map, drop}
use Rattle.std.specs.List.{list_any}
use Rattle.resolver.specs.Trees.{import_tree}
use Rattle.resolver.specs.Names.{is_primitive_name}
use Rattle.resolver.specs.Drafts.{imported_names}
use Rattle.resolver.proofs.imports.import_primitive.Given as goal

abbrev pub invariant-loop-item : goal.invariant-loop-item
invariant-loop-item l =
    list_any is_primitive_name (imported_names (map import_tree l.imports)) ≡ list_any is_primitive_name (imported_names (map import_tree (drop l.item-index l.imports)))
