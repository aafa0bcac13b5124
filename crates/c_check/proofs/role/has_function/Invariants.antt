use Rattle.c_meaning.specs.Breaches.{is_function}
use Rattle.c_check.proofs.Rest.{AnyFrom}
use Rattle.c_check.proofs.role.has_function.Given as goal

abbrev pub invariant-loop-place : goal.invariant-loop-place
invariant-loop-place l = AnyFrom is_function l.names l.place
