use Rattle.std.proofs.Common.{◌≡◌, ◌++◌, drop}
use Rattle.meaning.specs.Order.{numbers_of}
use Rattle.linker.proofs.modules.Modules.import_numbers.Given as goal

abbrev pub invariant-loop-item : goal.invariant-loop-item
invariant-loop-item l = l.numbers ++ numbers_of l.self.names (drop l.item-index l.items) ≡ numbers_of l.self.names l.items
