use Rattle.std.proofs.Common.{refl, arith}
use Rattle.std.proofs.lemmas.Result.{err_from_is_err_and}
use Rattle.resolver.proofs.InterfaceTables.{rows_more, rows_all}
use Rattle.resolver.proofs.interfaces.Rows.new.Goals as goal

pub loop-i-preserved : goal.loop-i-preserved
loop-i-preserved c =
    rows_more c.args.rows.now c.loop-i.i c.index-rows-i.result c.loop-i.by_name.entries c.insert.new.self.entries _ _ c.loop-i-test.true c.loop-i.auto.i c.index-rows-i.is c.as_bytes.ensures refl
    c.loop-i.invariant c.in_ok-insert.ensures.entries c.in_ok-insert.ensures.updates.0

pub returns : goal.returns
returns c = rows_all c.args.rows.now c.loop-i.i c.loop-i.by_name.entries (omega arith) c.loop-i.invariant

pub returns-in_err-insert : goal.returns-in_err-insert
returns-in_err-insert c =
    let p = err_from_is_err_and c.from_residual.result c.from_residual.ensures.1 in
    rw (p.1) tt
