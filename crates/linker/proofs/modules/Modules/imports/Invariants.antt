use Rattle.std.proofs.Common.{◌≡◌, ◌++◌, drop, map}
use Rattle.meaning.specs.Order.{imports_of}
use Rattle.linker.specs.Links.{imports_in}
use Rattle.linker.specs.Modules.{trees}
use Rattle.linker.proofs.modules.Modules.imports.Given as goal

abbrev pub invariant-loop-indexed : goal.invariant-loop-indexed
invariant-loop-indexed l = l.imports ++ imports_of l.self.names (map (λ o. o.imports) (trees (drop l.indexed-index l.self.objects.items))) ≡ imports_in (trees l.self.objects.items)
