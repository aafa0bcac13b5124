use Rattle.code_gen.specs.Emission.{types_of}
use Rattle.code_gen.proofs.Fitting.{Fitting}
use Rattle.code_gen.proofs.coercions.fitted.Given as goal

abbrev pub invariant-loop-i : goal.invariant-loop-i
invariant-loop-i l = Fitting l.fn.e l.e (types_of l.wanted) l.held l.made l.i
