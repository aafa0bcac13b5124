use Rattle.std.proofs.Common.{take}
use Rattle.resolver.specs.UseTables.{TakesItem}
use Rattle.resolver.proofs.uses.add_item.Given as goal

abbrev pub invariant-loop-name : goal.invariant-loop-name
invariant-loop-name l =
    TakesItem l.fn.modules.entries l.modules.entries (record { module_name = l.item.module_name; names = take l.name-index l.name-items })
