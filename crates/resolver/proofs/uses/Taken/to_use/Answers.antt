use Rattle.std.proofs.lemmas.Result.{err_from_is_err_and}
use Rattle.resolver.proofs.NamedParts.{called_use, needed_use}
use Rattle.resolver.proofs.uses.Taken.to_use.Goals as goal

pub returns-in_err-module_name : goal.returns-in_err-module_name
returns-in_err-module_name c =
    let p = err_from_is_err_and c.from_residual.result c.from_residual.ensures.1 in
    rw (p.1) tt

pub returns-in_err-row : goal.returns-in_err-row
returns-in_err-row c =
    let p = err_from_is_err_and c.from_residual-in_err-row.result c.from_residual-in_err-row.ensures.1 in
    rw (p.1) tt

pub returns-then-self : goal.returns-then-self
returns-then-self c = called_use c.args.self.now c.in_ok-module_name.module_name c.in_ok-row.row c.if-self.true c.in_ok-module_name.ensures c.in_ok-row.ensures

pub returns-else-self : goal.returns-else-self
returns-else-self c = needed_use c.args.self.now c.in_ok-module_name.module_name c.in_ok-row.row c.if-self.false c.in_ok-module_name.ensures c.in_ok-row.ensures
