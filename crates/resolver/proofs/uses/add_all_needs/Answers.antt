use Rattle.std.proofs.lemmas.Result.{err_from_is_err_and}
use Rattle.resolver.proofs.uses.add_all_needs.Goals as goal

pub returns-in_err-add_needs : goal.returns-in_err-add_needs
returns-in_err-add_needs c =
    let p = err_from_is_err_and c.from_residual.result c.from_residual.ensures.1 in
    rw (p.1) tt
