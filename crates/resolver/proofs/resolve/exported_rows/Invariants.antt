use Rattle.std.proofs.Common.{◌≡◌, ◌++◌, map, drop}
use Rattle.iface_text.specs.Lines.{untyped_row}
use Rattle.resolver.specs.BuiltHeads.{ExportTree}
use Rattle.resolver.specs.Trees.{export_tree, head_tree}
use Rattle.resolver.specs.Drafts.{exported_rows}
use Rattle.resolver.proofs.resolve.exported_rows.Given as goal

abbrev pub invariant-loop-export : goal.invariant-loop-export
invariant-loop-export l =
    exported_rows (head_tree l.head) ≡ l.rows ++ map (λ (e : ExportTree). untyped_row e.name e.count) (map export_tree (drop l.export-index l.export-items))
