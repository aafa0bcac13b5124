use Rattle.std.proofs.lemmas.Result.{err_from_is_err_and}
use Rattle.code_gen.proofs.generate.declare_use.Goals as goal

pub returns-in_err-declaration-in-From : goal.returns-in_err-declaration-in-From
returns-in_err-declaration-in-From c =
    let p = err_from_is_err_and c.from_residual.result c.from_residual.ensures.1 in
    rw (p.1) tt
