use Rattle.std.proofs.Common.{◌∙◌, ap, Some}
use Rattle.c_meaning.specs.declared.breach.BadCause.TheVariants.{Label}
use Rattle.c_meaning.specs.Breaches.{unless, may_return, standing, expr_breaches}
use Rattle.c_check.specs.Firsts.{first}
use Rattle.c_check.specs.Scopes.{scope_of}
use Rattle.c_check.proofs.Firsts.{first_of_pair}
use Rattle.c_check.proofs.scope.Scope.return_fault.Goals as goal

pub returns : goal.returns
returns c =
    let s = scope_of c.args.self.now in
    first_of_pair (unless Label (may_return s.blocks)) (standing s) (expr_breaches s (Some s.result) c.args.e.now)
    c.or-2.result c.or.result c.unless.result c.standing_fault.result c.expression_fault.result c.or-2.ensures c.or.ensures
    (c.unless.ensures ∙ ap (λ b. first (unless Label b)) c.may_return.ensures) c.standing_fault.ensures c.expression_fault.ensures
