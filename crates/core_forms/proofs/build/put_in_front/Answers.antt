use Rattle.std.proofs.lemmas.Result.{err_from_is_err_and}
use Rattle.core_forms.proofs.Sides.{moved_back, all_moved_back}
use Rattle.core_forms.proofs.build.put_in_front.Goals as goal

pub returns-in_err-push : goal.returns-in_err-push
returns-in_err-push c = let p = err_from_is_err_and c.from_residual.result c.from_residual.ensures.1 in rw p.1 tt

pub loop-item-preserved : goal.loop-item-preserved
loop-item-preserved c = moved_back _ c.loop-item.items c.loop-item.stack c.push.new.self c.pop.new.self c.in-Some.item c.loop-item.invariant c.in-Some.ensures (c.in_ok-push.ensures {u = tt}).ok

pub returns : goal.returns
returns c = all_moved_back _ c.loop-item.items c.loop-item.stack c.loop-item.invariant c.in_default.ensures.0
