use Rattle.std.proofs.Common.{◌≡◌, drop}
use Rattle.linker.specs.Links.{same_types}
use Rattle.linker.proofs.refusals.are_same_types.Given as goal

abbrev pub invariant-loop-i : goal.invariant-loop-i
invariant-loop-i l = same_types l.a l.b ≡ same_types (drop l.i l.a) (drop l.i l.b)
