use Rattle.c_tree.specs.Functions.{items_of}
use Rattle.code_gen.proofs.Units.{declares_one}
use Rattle.code_gen.proofs.generate.declare_used.Goals as goal

pub loop-used-preserved : goal.loop-used-preserved
loop-used-preserved c =
    declares_one c.args.uses.now c.loop-used.used-index c.used-item.result (items_of c.args.items.now) (items_of c.loop-used.items) (items_of c.declare_use.new.items) c.loop-used-test.true c.used-item.is
    c.loop-used.invariant c.in_ok-declare_use.ensures
