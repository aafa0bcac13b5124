use Rattle.std.proofs.Common.{◌≡◌, replicate}
use Rattle.built_table.specs.declared.primitives.Ty.TheVariants.{Obj}
use Rattle.resolver.proofs.resolve.objects.Given as goal

abbrev pub invariant-loop-i : goal.invariant-loop-i
invariant-loop-i l = l.types ≡ replicate l.i Obj
