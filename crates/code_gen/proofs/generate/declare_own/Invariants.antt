use Rattle.std.proofs.Common.{◌≡◌, ◌++◌, map, take}
use Rattle.core_tree.specs.Tree.{own_callee}
use Rattle.c_tree.specs.Functions.{items_of}
use Rattle.code_gen.specs.Callees.{function_of}
use Rattle.code_gen.specs.Emission.{declaration}
use Rattle.code_gen.proofs.generate.declare_own.Given as goal

abbrev pub invariant-loop-function : goal.invariant-loop-function
invariant-loop-function l = items_of l.items ≡ items_of l.fn.items ++ map declaration (map (own_callee l.functions.name) (map function_of (take l.function-index l.function-items)))
