use Rattle.core_tree.specs.Tree.{module_tree}
use Rattle.c_tree.specs.Functions.{items_of, fun_of}
use Rattle.code_gen.proofs.Units.{adds_one, pushed_item, function_at}
use Rattle.code_gen.proofs.definitions.define_all.Goals as goal

pub definition-requires : goal.definition-requires
definition-requires c =
    let m = module_tree c.args.functions.now in
    function_at m m.functions c.own-function-items.result.now c.loop-function.function-index c.function-item.result c.own-function-items.ensures c.loop-function-test.true c.function-item.is c.requires

pub loop-function-preserved : goal.loop-function-preserved
loop-function-preserved c =
    let m = module_tree c.args.functions.now in
    adds_one m c.own-function-items.result.now c.loop-function.function-index c.function-item.result (items_of c.args.items.now) (items_of c.loop-function.items) (items_of c.push.new.self) (fun_of c.in_ok-f.f)
    c.loop-function-test.true c.function-item.is c.loop-function.invariant c.in_ok-f.ensures (pushed_item c.loop-function.items c.push.new.self c.in_ok-f.f (c.in_ok-push.ensures {u = tt}).ok)
