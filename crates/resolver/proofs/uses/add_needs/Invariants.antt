use Rattle.std.proofs.Common.{◌≡◌, map, drop, Some}
use Rattle.resolver.specs.Elaboration.{both, item_needs}
use Rattle.resolver.specs.TakenRows.{use_of}
use Rattle.resolver.proofs.uses.add_needs.Given as goal

abbrev pub invariant-loop-name : goal.invariant-loop-name
invariant-loop-name l =
    both (Some (map use_of l.fn.taken)) (item_needs l.interfaces l.item.module_name l.item.names)
    ≡ both (Some (map use_of l.taken)) (item_needs l.interfaces l.item.module_name (drop l.name-index l.name-items))
