use Rattle.std.proofs.Common.{map, drop}
use Rattle.resolver.specs.Trees.{import_tree}
use Rattle.resolver.specs.UseTables.{HasModules}
use Rattle.resolver.proofs.uses.modules_by_name.Given as goal

abbrev pub invariant-loop-i : goal.invariant-loop-i
invariant-loop-i l = HasModules l.modules.entries (map import_tree (drop l.i l.imports))
