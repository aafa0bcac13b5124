use Rattle.std.proofs.Common.{◌∙◌, ap, drop}
use Rattle.marked_names.proofs.CountLemmas.{drop_next}
use Rattle.marked_names.proofs.scope.Scope.leave.Goals as goal

pub loop-preserved : goal.loop-preserved
loop-preserved c = c.leave_one.ensures ∙ ap (drop 1) c.loop.invariant ∙ drop_next c.loop.counter c.args.self.now
