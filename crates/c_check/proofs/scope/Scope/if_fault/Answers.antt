use Rattle.std.proofs.Common.{Some}
use Rattle.c_tree.specs.declared.tree.CTy.TheVariants.{Int}
use Rattle.c_meaning.specs.Breaches.{standing, expr_breaches}
use Rattle.c_check.specs.Scopes.{scope_of}
use Rattle.c_check.proofs.Firsts.{first_of_two}
use Rattle.c_check.proofs.scope.Scope.if_fault.Goals as goal

pub returns : goal.returns
returns c =
    let s = scope_of c.args.self.now in
    first_of_two (standing s) (expr_breaches s (Some Int) c.args.condition.now)
    c.or.result c.standing_fault.result c.expression_fault.result c.or.ensures c.standing_fault.ensures c.expression_fault.ensures
