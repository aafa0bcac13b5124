use Rattle.c_tree.specs.Spelling.{param_tokens, local_tokens}
use Rattle.c_write.proofs.Lists.{adds_along}
use Rattle.c_write.proofs.Adding.{adds_both, from_anything}
use Rattle.c_write.proofs.item.put_definition.Goals as goal

pub returns : goal.returns
returns c =
    adds_both c.in_ok-put_head.ensures (adds_both (adds_along param_tokens c.as_slice.result.now c.args.function.now.params c.as_slice.ensures c.in_ok-put_params.ensures) (adds_both c.in_ok-put_mark.ensures (adds_both (from_anything c.in_ok-open_block.ensures) (adds_both (adds_along local_tokens c.as_slice-2.result.now c.args.function.now.locals c.as_slice-2.ensures c.in_ok-put_locals.ensures) (adds_both c.in_ok-put_code.ensures c.in_ok-close_block.ensures)))))
