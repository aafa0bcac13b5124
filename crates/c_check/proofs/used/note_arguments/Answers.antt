use Rattle.c_meaning.specs.Checked.{used_in_argument}
use Rattle.c_check.proofs.Rest.{rest_at}
use Rattle.c_check.proofs.Using.{used_on}
use Rattle.c_check.proofs.used.note_arguments.Goals as goal

pub loop-arg-preserved : goal.loop-arg-preserved
loop-arg-preserved c =
    used_on used_in_argument c.args.used.now c.args.args.now c.loop-arg.arg-index c.loop-arg.used c.note_argument.new.used c.loop-arg.invariant c.arg-item.result
    (rest_at c.args.args.now c.loop-arg.arg-index c.arg-item.result c.loop-arg-test.true c.arg-item.is) c.in_ok-note_argument.ensures
