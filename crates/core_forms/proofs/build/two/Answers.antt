use Rattle.std.proofs.lemmas.Result.{err_from_is_err_and}
use Rattle.core_forms.proofs.Views.{two_are}
use Rattle.core_forms.proofs.build.two.Goals as goal

pub returns-in_err-push : goal.returns-in_err-push
returns-in_err-push c = let p = err_from_is_err_and c.from_residual.result c.from_residual.ensures.1 in rw p.1 tt

pub returns-in_err-push-2 : goal.returns-in_err-push-2
returns-in_err-push-2 c = let p = err_from_is_err_and c.from_residual-in_err-push-2.result c.from_residual-in_err-push-2.ensures.1 in rw p.1 tt

pub returns : goal.returns
returns c = two_are c.args.at c.args.a c.args.b c.new-items.result c.push.new.self c.push-2.new.self c.new-items.ensures (c.in_ok-push.ensures {u = tt}).ok (c.in_ok-push-2.ensures {u = tt}).ok
