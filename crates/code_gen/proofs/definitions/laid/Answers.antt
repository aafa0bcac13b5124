use Rattle.std.proofs.lemmas.Result.{err_from_is_err_and}
use Rattle.code_gen.proofs.definitions.laid.Goals as goal

pub returns-in_err-layout : goal.returns-in_err-layout
returns-in_err-layout c = λ code are.
    let p = err_from_is_err_and c.from_residual.result c.from_residual.ensures.1 in
    rw (p.1) tt
