use Rattle.resolver.proofs.FirstSight.{AreImported}
use Rattle.resolver.proofs.imports.imported_names.Given as goal

abbrev pub invariant-loop-item : goal.invariant-loop-item
invariant-loop-item l = AreImported l.imports l.table l.item-index
