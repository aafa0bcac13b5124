use Rattle.std.proofs.Common.{◌≡◌, map, drop}
use Rattle.std.specs.List.{list_all}
use Rattle.resolver.specs.Trees.{export_tree}
use Rattle.resolver.specs.Drafts.{definitions_in, is_there}
use Rattle.resolver.specs.Parts.{top_of}
use Rattle.resolver.proofs.agreement.Defined.has_exports.Given as goal

abbrev pub invariant-loop-export : goal.invariant-loop-export
invariant-loop-export l =
    list_all (is_there (definitions_in (map top_of l.self.tops.now))) (map export_tree l.exports)
    ≡ list_all (is_there (definitions_in (map top_of l.self.tops.now))) (map export_tree (drop l.export-index l.exports))
