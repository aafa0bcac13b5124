use Rattle.std.proofs.Common.{◌≡◌, take}
use Rattle.code_gen.specs.Scopes.{words}
use Rattle.code_gen.proofs.context.Params.variables.Given as goal

abbrev pub invariant-loop-i : goal.invariant-loop-i
invariant-loop-i l = l.vars ≡ words 0 (take l.i l.self)
