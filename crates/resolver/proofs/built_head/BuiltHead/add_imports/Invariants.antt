use Rattle.std.proofs.Common.{◌≡◌, drop}
use Rattle.scheme_data.specs.Data.{plain_all}
use Rattle.resolver.specs.BuiltHeads.{import_items}
use Rattle.resolver.specs.Forwards.{imports_behind}
use Rattle.resolver.specs.Trees.{head_tree}
use Rattle.resolver.proofs.built_head.BuiltHead.add_imports.Given as goal

abbrev pub invariant-loop-d : goal.invariant-loop-d
invariant-loop-d l =
    imports_behind (head_tree l.fn.self) (import_items (plain_all l.items)) ≡ imports_behind (head_tree l.self) (import_items (plain_all (drop l.d-index l.items)))
