use Rattle.std.proofs.Common.{◌∙◌, ap, not, true, ◌&&◌}
use Rattle.c_meaning.specs.declared.breach.BadCause.TheVariants.{Twice, Shape}
use Rattle.c_meaning.specs.Breaches.{unless, has, may_stand, may_loop}
use Rattle.c_check.specs.Firsts.{first}
use Rattle.c_check.specs.Scopes.{scope_of}
use Rattle.c_check.proofs.Firsts.{first_of_two}
use Rattle.c_check.proofs.scope.Scope.loop_fault.Goals as goal

pub returns : goal.returns
returns c =
    let s = scope_of c.args.self.now in
    first_of_two (unless Twice (not (has s.labels c.args.label.now))) (unless Shape (may_loop s.role && may_stand s.room true))
    c.or.result c.unless.result c.unless-2.result c.or.ensures
    (c.unless.ensures ∙ ap (λ b. first (unless Twice b)) c.is_new.ensures) (c.unless-2.ensures ∙ ap (λ b. first (unless Shape b)) c.may_loop.ensures)
