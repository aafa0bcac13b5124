use Rattle.c_tree.specs.Spelling.{argument_tokens}
use Rattle.c_write.proofs.Lists.{adds_along}
use Rattle.c_write.proofs.Adding.{adds_both, adds_apart}
use Rattle.c_write.proofs.statement.put_call.Goals as goal

pub returns : goal.returns
returns c =
    adds_apart (adds_both c.in_ok-put_callee.ensures (adds_both c.in_ok-put_mark.ensures (adds_both (adds_along argument_tokens c.as_slice.result.now c.args.call.now.args c.as_slice.ensures c.in_ok-put_arguments.ensures) c.in_ok-put_mark-2.ensures)))
