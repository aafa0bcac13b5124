-- The list of the built primitives has them all.
use Rattle.std.proofs.Common.{Contains, refl, arith}
use Rattle.built_table.specs.declared.primitives.Primitive.{Primitive}
use Rattle.built_table.specs.declared.primitives.Primitive.TheVariants.{Add, Less, Display, Newline}
use Rattle.built_table.specs.Table.{primitives}

pub each_built : (p : Primitive) → Contains primitives p
each_built Add = (0, omega arith, refl)
each_built Less = (1, omega arith, refl)
each_built Display = (2, omega arith, refl)
each_built Newline = (3, omega arith, refl)
