use Rattle.std.proofs.Common.{drop, map}
use Rattle.linker.specs.Modules.{trees, unit_part}
use Rattle.linker.proofs.Chosen.{Taking}
use Rattle.linker.proofs.choosing.take_units.Given as goal

abbrev pub invariant-loop-place : goal.invariant-loop-place
invariant-loop-place l = Taking (trees l.fn.objects) l.order (map unit_part l.units) (trees l.objects) (drop l.place-index l.order)
