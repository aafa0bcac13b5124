use Rattle.std.proofs.Common.{◌∙◌, ap}
use Rattle.c_meaning.specs.declared.breach.BadCause.TheVariants.{Label}
use Rattle.c_meaning.specs.Breaches.{unless, may_go, standing}
use Rattle.c_check.specs.Firsts.{first}
use Rattle.c_check.specs.Scopes.{scope_of}
use Rattle.c_check.proofs.Firsts.{first_of_two}
use Rattle.c_check.proofs.scope.Scope.goto_fault.Goals as goal

pub returns : goal.returns
returns c =
    let s = scope_of c.args.self.now in
    first_of_two (standing s) (unless Label (may_go s.blocks c.args.label.now))
    c.or.result c.standing_fault.result c.unless.result c.or.ensures
    c.standing_fault.ensures (c.unless.ensures ∙ ap (λ b. first (unless Label b)) c.may_go.ensures)
