use Rattle.resolver.proofs.FirstSight.{outside_more}
use Rattle.resolver.proofs.outside.outside_names.Goals as goal

pub loop-top-preserved : goal.loop-top-preserved
loop-top-preserved c =
    outside_more c.args.imports.now c.in_ok-imported.imported c.args.functions.now c.loop-top.names c.collect_top.new.names c.args.tops.now c.loop-top.top-index _
    c.loop-top-test.true c.top-item.is c.loop-top.invariant c.in_ok-imported.ensures c.in_ok-collect_top.ensures
