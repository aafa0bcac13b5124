use Rattle.std.proofs.Common.{◌≡◌, map, take}
use Rattle.core_tree.specs.Tree.{functions_in}
use Rattle.code_gen.specs.Callees.{function_of}
use Rattle.code_gen.proofs.callees.Functions.new.Given as goal

abbrev pub invariant-loop-top : goal.invariant-loop-top
invariant-loop-top l = map function_of l.own ≡ functions_in (take l.top-index l.in_module.tops)
