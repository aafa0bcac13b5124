use Rattle.std.proofs.Common.{◌≡◌, ◌++◌, [], drop, map}
use Rattle.c_tree.specs.Code.{done}
use Rattle.c_tree.specs.Names.{initializer_name}
use Rattle.c_tree.specs.Pieces.{pieces}
use Rattle.plan_rules.specs.Joined.{calls_alone}
use Rattle.linker.specs.Modules.{unit_names}
use Rattle.linker.proofs.joining.push_initializers.Given as goal

abbrev pub invariant-loop-unit : goal.invariant-loop-unit
invariant-loop-unit l = l.body ++ pieces (calls_alone (map initializer_name (unit_names (drop l.unit-index l.units))) done) [] ≡ l.fn.body ++ pieces (calls_alone (map initializer_name (unit_names l.units)) done) []
