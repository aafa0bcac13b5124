use Rattle.std.proofs.Common.{◌≡◌, drop}
use Rattle.linker.specs.Links.{missing_module}
use Rattle.linker.proofs.modules.Modules.missing_module.Given as goal

abbrev pub invariant-loop-item : goal.invariant-loop-item
invariant-loop-item l = missing_module l.self.names l.number l.items ≡ missing_module l.self.names l.number (drop l.item-index l.items)
