use Rattle.std.proofs.Common.{◌∙◌, ap, None}
use Rattle.c_meaning.specs.Breaches.{variable_type, name_breaches, standing, expr_breaches}
use Rattle.c_check.specs.Firsts.{first}
use Rattle.c_check.specs.Scopes.{scope_of}
use Rattle.c_check.proofs.Firsts.{first_of_pair}
use Rattle.c_check.proofs.scope.Scope.assign_fault.Goals as goal

pub returns : goal.returns
returns c =
    let s = scope_of c.args.self.now in
    first_of_pair (name_breaches None (variable_type s c.args.x.now)) (standing s) (expr_breaches s (variable_type s c.args.x.now) c.args.e.now)
    c.or-2.result c.or.result c.name_fault.result c.standing_fault.result c.expression_fault.result c.or-2.ensures c.or.ensures
    (c.name_fault.ensures ∙ ap (λ t. first (name_breaches None t)) c.variable_type-t.ensures)
    c.standing_fault.ensures
    (c.expression_fault.ensures ∙ ap (λ t. first (expr_breaches s t c.args.e.now)) c.variable_type-t.ensures)
