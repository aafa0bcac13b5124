use Rattle.std.proofs.Common.{sym, ap, ◌∙◌}
use Rattle.c_machine.specs.Decoded.{functions_of}
use Rattle.c_machine.proofs.Definitions.{distinct_here, functions_more, no_definitions}
use Rattle.c_machine.proofs.decoding.all_functions.Goals as goal

pub loop-item-init : goal.loop-item-init
loop-item-init c = c.new-functions.ensures ∙ ap (functions_of c.args.funs.now) (sym no_definitions)

pub add_function-requires : goal.add_function-requires
add_function-requires c =
    distinct_here c.args.items.now c.loop-item.item-index c.item-item.result c.loop-item-test.true c.item-item.is c.requires

pub loop-item-preserved : goal.loop-item-preserved
loop-item-preserved c =
    functions_more c.args.funs.now c.loop-item.functions c.add_function.new.functions c.args.items.now c.loop-item.item-index c.item-item.result c.loop-item-test.true c.item-item.is c.loop-item.invariant (c.in_ok-add_function.ensures {u = tt})
