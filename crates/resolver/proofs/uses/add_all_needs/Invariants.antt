use Rattle.std.proofs.Common.{◌≡◌, map, drop, Some}
use Rattle.resolver.specs.Trees.{import_tree}
use Rattle.resolver.specs.Elaboration.{both, needs}
use Rattle.resolver.specs.TakenRows.{use_of}
use Rattle.resolver.proofs.uses.add_all_needs.Given as goal

abbrev pub invariant-loop-item : goal.invariant-loop-item
invariant-loop-item l =
    both (Some (map use_of l.fn.taken)) (needs l.interfaces (map import_tree l.imports))
    ≡ both (Some (map use_of l.taken)) (needs l.interfaces (map import_tree (drop l.item-index l.imports)))
