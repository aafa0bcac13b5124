use Rattle.std.proofs.lemmas.Result.{err_from_is_err_and}
use Rattle.core_forms.proofs.Sides.{moved, all_moved}
use Rattle.core_forms.proofs.build.listed.Goals as goal

pub returns-in_err-push : goal.returns-in_err-push
returns-in_err-push c = let p = err_from_is_err_and c.from_residual.result c.from_residual.ensures.1 in rw p.1 tt

pub loop-item-preserved : goal.loop-item-preserved
loop-item-preserved c = moved c.args.stack c.loop-item.items c.loop-item.stack c.push.new.self c.pop.new.self c.in-Some.item c.loop-item.invariant c.in-Some.ensures (c.in_ok-push.ensures {u = tt}).ok

pub returns : goal.returns
returns c = all_moved c.args.stack c.loop-item.items c.loop-item.stack c.loop-item.invariant c.in_default.ensures.0
