use Rattle.std.proofs.Common.{◌≡◌, drop}
use Rattle.scheme_data.specs.Data.{plain_all}
use Rattle.resolver.specs.BuiltHeads.{export_items}
use Rattle.resolver.specs.Forwards.{exports_behind}
use Rattle.resolver.specs.Trees.{head_tree}
use Rattle.resolver.proofs.built_head.BuiltHead.add_exports.Given as goal

abbrev pub invariant-loop-d : goal.invariant-loop-d
invariant-loop-d l =
    exports_behind (head_tree l.fn.self) (export_items (plain_all l.items)) ≡ exports_behind (head_tree l.self) (export_items (plain_all (drop l.d-index l.items)))
