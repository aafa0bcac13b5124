use Rattle.std.proofs.Common.{◌∙◌, ap, sym}
use Rattle.c_meaning.specs.Breaches.{callee_breaches, operands_breaches, expr_breaches}
use Rattle.c_check.specs.Firsts.{first}
use Rattle.c_check.specs.Scopes.{scope_of}
use Rattle.c_check.proofs.Firsts.{first_of_two}
use Rattle.c_check.proofs.scope.Scope.expression_fault.Goals as goal

pub returns-in-Call : goal.returns-in-Call
returns-in-Call c =
    first_of_two (callee_breaches (scope_of c.args.self.now) c.args.asked c.in-Call.call.callee) (operands_breaches (scope_of c.args.self.now) c.in-Call.call c.in-Call.call.callee)
    c.or.result c.callee_fault.result c.operands_fault.result c.or.ensures c.callee_fault.ensures c.operands_fault.ensures
    ∙ ap (λ e. first (expr_breaches (scope_of c.args.self.now) c.args.asked e)) (sym c.in-Call.is)
