use Rattle.c_check.specs.Roles.{role_as}
use Rattle.c_check.specs.Heads.{takes_before}
use Rattle.c_check.proofs.HeadParts.{TypesFrom}
use Rattle.c_check.proofs.heads.Head.types_fault.Given as goal

abbrev pub invariant-loop-place : goal.invariant-loop-place
invariant-loop-place l = TypesFrom (role_as l.self.role) (takes_before l.self.before) l.types l.place
