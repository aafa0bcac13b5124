use Rattle.std.proofs.Common.{◌+◌, refl}
use Rattle.std.proofs.lemmas.Result.{err_from_is_err_and}
use Rattle.unit_compile.proofs.Interfaces.{one_more, first_refused}
use Rattle.unit_compile.proofs.compile.interfaces_of.Goals as goal

pub returns-in_err-interface_of : goal.returns-in_err-interface_of
returns-in_err-interface_of c =
    let p = err_from_is_err_and c.from_residual.result c.from_residual.ensures.1 in
    rw (p.1, p.2) (first_refused c.args.texts.now c.loop-text.text-index c.text-item.result c.as_bytes.result.now c.in_err-interface_of.field-0.0 c.loop-text-test.true c.text-item.is c.as_bytes.ensures c.in_err-interface_of.ensures)

pub loop-text-preserved : goal.loop-text-preserved
loop-text-preserved c =
    one_more c.args.texts.now c.loop-text.text-index (c.loop-text.text-index + 1) c.text-item.result c.as_bytes.result.now c.loop-text.interfaces c.push.new.self c.in_ok-interface_of.field-0
    c.loop-text-test.true refl c.text-item.is c.as_bytes.ensures c.in_ok-push.ensures.ok c.loop-text.invariant c.in_ok-interface_of.ensures
