use Rattle.c_meaning.specs.Breaches.{standing, local_breaches}
use Rattle.c_check.specs.Scopes.{scope_of}
use Rattle.c_check.proofs.Firsts.{first_of_three}
use Rattle.c_check.proofs.scope.Scope.catch_fault.Goals as goal

pub returns : goal.returns
returns c =
    let s = scope_of c.args.self.now in
    first_of_three (standing s) (local_breaches s c.args.exit.now) (local_breaches s c.args.carried.now)
    c.or-2.result c.standing_fault.result c.or.result c.local_fault.result c.local_fault-2.result c.or-2.ensures c.or.ensures
    c.standing_fault.ensures c.local_fault.ensures c.local_fault-2.ensures
