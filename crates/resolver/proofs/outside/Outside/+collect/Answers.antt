use Rattle.std.proofs.lemmas.Result.{err_from_is_err_and}
use Rattle.resolver.proofs.FirstSight.{form_collected, collected_more}
use Rattle.resolver.proofs.outside.Outside.+collect.Goals as goal

pub collect-returns : goal.collect-returns
collect-returns t c =
    rw c.in-List.is (form_collected c.args.self.now.imported.now c.args.self.now.functions.now c.args.self.now.params.now c.args.names.now c.add.new.names c.collect_all.new.names
    c.in-List.field-0 c.in-List.ds _ _ c.collect_all.result c.as_slice.ensures c.in-len1-up.len_at_least c.first-item.is c.in_ok-add.ensures c.collect_all.ensures)

pub collect_all-loop-d-preserved : goal.collect_all-loop-d-preserved
collect_all-loop-d-preserved t c =
    collected_more c.args.self.now.imported.now c.args.self.now.functions.now c.args.self.now.params.now c.args.names.now c.loop-d.names c.collect.new.names
    c.args.ds.now c.loop-d.d-index _ c.loop-d-test.true c.d-item.is c.loop-d.invariant c.in_ok-collect.ensures

pub collect_all-returns-in_err-collect : goal.collect_all-returns-in_err-collect
collect_all-returns-in_err-collect t c =
    let p = err_from_is_err_and c.from_residual.result c.from_residual.ensures.1 in
    rw (p.1) tt
