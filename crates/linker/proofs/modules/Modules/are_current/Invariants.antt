use Rattle.std.proofs.Common.{◌≡◌, drop}
use Rattle.std.specs.List.{list_all}
use Rattle.core_tree.specs.WellFormed.{row_of}
use Rattle.linker.specs.Links.{agrees, current_row, are_current}
use Rattle.linker.specs.Modules.{trees}
use Rattle.linker.proofs.modules.Modules.are_current.Given as goal

abbrev pub invariant-loop-indexed : goal.invariant-loop-indexed
invariant-loop-indexed l = are_current (trees l.self.objects.items) ≡ list_all (λ o. list_all (λ u. agrees (row_of u) (current_row (trees l.self.objects.items) u)) o.uses) (trees (drop l.indexed-index l.self.objects.items))
