use Rattle.c_check.specs.Scopes.{scope_of}
use Rattle.c_check.specs.Asked.{wants_in, asks_more}
use Rattle.c_check.proofs.Arguments.{ArgumentsFrom}
use Rattle.c_check.proofs.scope.Scope.arguments_fault.Given as goal

abbrev pub invariant-loop-i : goal.invariant-loop-i
invariant-loop-i l = ArgumentsFrom (scope_of l.self) (wants_in l.asked) (asks_more l.asked) l.args l.i
