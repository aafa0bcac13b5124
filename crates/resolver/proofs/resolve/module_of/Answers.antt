use Rattle.std.proofs.lemmas.Result.{err_from_is_err_and}
use Rattle.resolver.proofs.resolve.module_of.Goals as goal

pub returns-in_err-uses : goal.returns-in_err-uses
returns-in_err-uses c =
    let p = err_from_is_err_and c.from_residual.result c.from_residual.ensures.1 in
    rw (p.1) tt

pub returns-in_err-exports : goal.returns-in_err-exports
returns-in_err-exports c =
    let p = err_from_is_err_and c.from_residual-in_err-exports.result c.from_residual-in_err-exports.ensures.1 in
    rw (p.1) tt

pub returns-in_err-imports : goal.returns-in_err-imports
returns-in_err-imports c =
    let p = err_from_is_err_and c.from_residual-in_err-imports.result c.from_residual-in_err-imports.ensures.1 in
    rw (p.1) tt
