use Rattle.std.proofs.Common.{◌≡◌, ◌++◌, reverse, length}
use Rattle.std.specs.List.{flat_map}
use Rattle.linker.proofs.joining.push_units.Given as goal

abbrev pub invariant-loop-unit : goal.invariant-loop-unit
invariant-loop-unit l = flat_map (λ u. u.items) (reverse l.units) ++ l.items ≡ flat_map (λ u. u.items) l.fn.units ++ l.fn.items

abbrev pub decreases-loop-unit : goal.decreases-loop-unit
decreases-loop-unit l = length l.units
