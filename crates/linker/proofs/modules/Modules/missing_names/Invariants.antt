use Rattle.std.proofs.Common.{◌≡◌, suc, drop}
use Rattle.linker.specs.Links.{first_refused, missing_name, missing_names}
use Rattle.linker.specs.Modules.{trees}
use Rattle.linker.proofs.modules.Modules.missing_names.Given as goal

abbrev pub invariant-loop-place : goal.invariant-loop-place
invariant-loop-place l = missing_names (trees l.self.objects.items) ≡ first_refused (λ n o. missing_name (trees l.self.objects.items) n o.uses) (suc l.place) (trees (drop l.place l.self.objects.items))
