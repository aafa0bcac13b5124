use Rattle.std.proofs.Common.{◌≡◌, suc, drop}
use Rattle.linker.specs.Links.{first_refused, missing_module, missing_modules}
use Rattle.linker.specs.Modules.{trees}
use Rattle.linker.proofs.modules.Modules.missing_modules.Given as goal

abbrev pub invariant-loop-place : goal.invariant-loop-place
invariant-loop-place l = missing_modules (trees l.self.objects.items) ≡ first_refused (λ n o. missing_module l.self.names n o.imports) (suc l.place) (trees (drop l.place l.self.objects.items))
