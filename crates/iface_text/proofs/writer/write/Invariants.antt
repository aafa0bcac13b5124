use Rattle.std.proofs.Common.{◌≡◌, ◌++◌, ◌∷◌, [], drop}
use Rattle.iface_text.specs.Format.{iface_tree, spelling, ended, end_line}
use Rattle.iface_text.proofs.RowLists.{row_lines}
use Rattle.iface_text.proofs.writer.write.Given as goal

abbrev pub invariant-loop-row : goal.invariant-loop-row
invariant-loop-row l = l.text ++ ended (row_lines (drop l.row-index l.row-items) ++ end_line ∷ []) ≡ spelling (iface_tree l.i)
