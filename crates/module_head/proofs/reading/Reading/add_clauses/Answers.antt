use Rattle.std.proofs.lemmas.Result.{err_from_is_err_and}
use Rattle.module_head.proofs.ClauseSteps.{clause_on, clause_off}
use Rattle.module_head.proofs.reading.Reading.add_clauses.Goals as goal

pub loop-d-preserved : goal.loop-d-preserved
loop-d-preserved c =
    clause_on c.args.ds.now c.loop-d.d-index _ _ c.loop-d.self _ c.loop-d-test.true c.d-item.is c.loop-d.invariant c.in_ok-add_clause.ensures

pub returns-in_err-add_clause : goal.returns-in_err-add_clause
returns-in_err-add_clause c =
    let p = err_from_is_err_and c.from_residual.result c.from_residual.ensures.1 in
    rw (p.1, p.2) (clause_off c.args.ds.now c.loop-d.d-index _ _ c.loop-d.self _ _ c.loop-d-test.true c.d-item.is c.loop-d.invariant c.in_err-add_clause.ensures)
