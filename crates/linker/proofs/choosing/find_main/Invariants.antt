use Rattle.std.proofs.Common.{drop}
use Rattle.linker.specs.Modules.{trees}
use Rattle.linker.proofs.Chosen.{Finding}
use Rattle.linker.proofs.choosing.find_main.Given as goal

abbrev pub invariant-loop-place : goal.invariant-loop-place
invariant-loop-place l = Finding (trees l.objects) l.place (trees (drop l.place l.objects))
