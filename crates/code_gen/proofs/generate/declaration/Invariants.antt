use Rattle.std.proofs.Common.{◌≡◌, replicate}
use Rattle.c_tree.specs.declared.tree.CTy.TheVariants.{Obj}
use Rattle.code_gen.proofs.generate.declaration.Given as goal

abbrev pub invariant-loop : goal.invariant-loop
invariant-loop l = l.params ≡ replicate l.counter Obj
