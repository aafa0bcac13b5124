use Rattle.std.proofs.Common.{◌≡◌, map, take}
use Rattle.c_tree.specs.Names.{local_name}
use Rattle.plan_rules.specs.Representation.{local}
use Rattle.code_gen.proofs.parts.local_args.Given as goal

abbrev pub invariant-loop-x : goal.invariant-loop-x
invariant-loop-x l = l.args ≡ map local (map local_name (take l.x-index l.xs))
