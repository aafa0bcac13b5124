use Rattle.c_check.proofs.HeadParts.{LocalsFrom}
use Rattle.c_check.proofs.heads.locals_fault.Given as goal

abbrev pub invariant-loop-local : goal.invariant-loop-local
invariant-loop-local l = LocalsFrom l.fn.variables l.locals l.local-index l.variables
