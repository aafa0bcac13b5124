use Rattle.std.proofs.Common.{◌≡◌, ◌++◌, drop}
use Rattle.iface_text.specs.Format.{AreRows}
use Rattle.linker.specs.Modules.{row_names}
use Rattle.linker.proofs.reading.exported_names.Given as goal

abbrev pub invariant-loop-row : goal.invariant-loop-row
invariant-loop-row l = AreRows l.names (drop l.row-index l.rows) × (l.names ++ row_names (drop l.row-index l.rows) ≡ row_names l.rows)
