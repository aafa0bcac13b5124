use Rattle.c_check.specs.Roles.{role_as}
use Rattle.c_check.specs.Heads.{takes_before}
use Rattle.c_check.proofs.HeadParts.{ParamsFrom}
use Rattle.c_check.proofs.heads.Head.params_fault.Given as goal

abbrev pub invariant-loop-place : goal.invariant-loop-place
invariant-loop-place l = ParamsFrom (role_as l.self.role) (takes_before l.self.before) l.params l.place l.variables
