use Rattle.std.proofs.Common.{◌≡◌, drop}
use Rattle.resolver.specs.BuiltHeads.{has_type}
use Rattle.resolver.proofs.shapes.name_has_type.Given as goal

abbrev pub invariant-loop-i : goal.invariant-loop-i
invariant-loop-i l = has_type l.name ≡ has_type (drop l.i l.name)
