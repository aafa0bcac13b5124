use Rattle.std.proofs.lemmas.Result.{err_from_is_err_and}
use Rattle.resolver.proofs.Adding.{no_head}
use Rattle.resolver.proofs.built_head.read_head.Goals as goal

pub returns-in_default-ds : goal.returns-in_default-ds
returns-in_default-ds c = no_head _ c.in-Some.ds.now c.in-Some.ensures c.in_default-ds.len_below

pub returns-in_err-head : goal.returns-in_err-head
returns-in_err-head c =
    let p = err_from_is_err_and c.from_residual.result c.from_residual.ensures.1 in
    rw (p.1) tt

pub returns-in_err-is_right : goal.returns-in_err-is_right
returns-in_err-is_right c =
    let p = err_from_is_err_and c.from_residual-in_err-is_right.result c.from_residual-in_err-is_right.ensures.1 in
    rw (p.1) tt
