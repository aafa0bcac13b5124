use Rattle.std.proofs.Common.{◌≡◌, map, take}
use Rattle.c_check.proofs.declared.types_of.Given as goal

abbrev pub invariant-loop-var : goal.invariant-loop-var
invariant-loop-var l = l.types ≡ map (λ v. v.ty) (take l.var-index l.vars)
