use Rattle.std.proofs.Common.{None}
use Rattle.c_meaning.specs.Breaches.{standing, callee_breaches, operands_breaches}
use Rattle.c_check.specs.Scopes.{scope_of}
use Rattle.c_check.proofs.Firsts.{first_of_pair}
use Rattle.c_check.proofs.scope.Scope.call_fault.Goals as goal

pub returns : goal.returns
returns c =
    let s = scope_of c.args.self.now in
    first_of_pair (callee_breaches s None c.args.call.now.callee) (standing s) (operands_breaches s c.args.call.now c.args.call.now.callee)
    c.or-2.result c.or.result c.callee_fault.result c.standing_fault.result c.operands_fault.result c.or-2.ensures c.or.ensures
    c.callee_fault.ensures c.standing_fault.ensures c.operands_fault.ensures
