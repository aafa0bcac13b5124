use Rattle.std.proofs.Common.{◌<◌, length, get_or, sym, ◌∙◌, ap}
use Rattle.code_gen.proofs.OwnFunctions.{listed_more}
use Rattle.code_gen.proofs.callees.Functions.new.Goals as goal

pub loop-top-preserved : goal.loop-top-preserved
loop-top-preserved c =
    let tops = c.args.in_module.now.tops in
    let within : c.loop-top.top-index < length tops = rw (sym c.as_slice-top-items.ensures) c.loop-top-test.true in
    listed_more tops c.loop-top.top-index c.top-item.result c.loop-top.own c.add_function.new.own within
    (c.top-item.is ∙ ap (λ ts. get_or ts c.loop-top.top-index c.top-item.result) c.as_slice-top-items.ensures) c.loop-top.invariant c.in_ok-add_function.ensures
