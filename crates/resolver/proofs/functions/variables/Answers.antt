use Rattle.std.proofs.lemmas.Result.{err_from_is_err_and}
use Rattle.resolver.proofs.Numbers.{numbered_more}
use Rattle.resolver.proofs.functions.variables.Goals as goal

pub loop-n-preserved : goal.loop-n-preserved
loop-n-preserved c = numbered_more c.args.first c.loop-n.n c.loop-n.params c.push.new.self c.loop-n.auto.n c.loop-n.invariant c.in_ok-push.ensures.ok

pub returns-in_err-push : goal.returns-in_err-push
returns-in_err-push c =
    let p = err_from_is_err_and c.from_residual.result c.from_residual.ensures.1 in
    rw (p.1) tt
