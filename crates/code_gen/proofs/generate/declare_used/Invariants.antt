use Rattle.std.proofs.Common.{◌≡◌, ◌++◌, map, take}
use Rattle.core_tree.specs.Tree.{used_callees}
use Rattle.c_tree.specs.Functions.{items_of}
use Rattle.code_gen.specs.Emission.{declaration}
use Rattle.code_gen.proofs.generate.declare_used.Given as goal

abbrev pub invariant-loop-used : goal.invariant-loop-used
invariant-loop-used l = items_of l.items ≡ items_of l.fn.items ++ map declaration (used_callees (take l.used-index l.uses))
