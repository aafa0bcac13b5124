use Rattle.std.proofs.Common.{map, take}
use Rattle.core_tree.specs.Tree.{module_tree}
use Rattle.c_tree.specs.Functions.{items_of}
use Rattle.code_gen.specs.Callees.{function_of}
use Rattle.code_gen.specs.Emission.{AddsFunctions}
use Rattle.code_gen.proofs.definitions.define_all.Given as goal

abbrev pub invariant-loop-function : goal.invariant-loop-function
invariant-loop-function l = AddsFunctions (module_tree l.functions) (map function_of (take l.function-index l.function-items)) (items_of l.fn.items) (items_of l.items)
