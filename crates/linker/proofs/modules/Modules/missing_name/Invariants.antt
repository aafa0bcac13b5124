use Rattle.std.proofs.Common.{◌≡◌, drop}
use Rattle.linker.specs.Links.{missing_name}
use Rattle.linker.specs.Modules.{trees}
use Rattle.linker.proofs.modules.Modules.missing_name.Given as goal

abbrev pub invariant-loop-used : goal.invariant-loop-used
invariant-loop-used l = missing_name (trees l.self.objects.items) l.number l.uses ≡ missing_name (trees l.self.objects.items) l.number (drop l.used-index l.uses)
