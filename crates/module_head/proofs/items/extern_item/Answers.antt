use Rattle.std.proofs.Common.{sym, ◌∙◌, arith}
use Rattle.std.proofs.lemmas.Result.{err_from_is_err_and}
use Rattle.std.proofs.lemmas.Bool.Decides.{nat_tests}
use Rattle.module_head.proofs.Layers.{no_extern, extern_is}
use Rattle.module_head.proofs.items.extern_item.Goals as goal

pub returns-then-ds-ne3 : goal.returns-then-ds-ne3
returns-then-ds-ne3 c = no_extern _ c.in-Some.ds.now c.in-Some.ensures c.if-ds-ne3.true

pub returns : goal.returns
returns c =
    extern_is _ c.in-Some.ds.now _ _ _ _ c.in-Some-2.f c.in-Some-3.params _ _ c.in-Some.ensures (grind (arith, nat_tests))
    c.index-ds-0.is c.index-ds-1.is c.index-ds-2.is c.place.ensures
    (sym c.in-Some-2.is ∙ c.in_ok-f.ensures) (sym c.in-Some-3.is ∙ c.in_ok-params.ensures) c.in-Some-string.ensures c.in_ok-copy.ensures

pub returns-in_err-f : goal.returns-in_err-f
returns-in_err-f c =
    let p = err_from_is_err_and c.from_residual.result c.from_residual.ensures.1 in
    rw (p.1) tt

pub returns-in_err-params : goal.returns-in_err-params
returns-in_err-params c =
    let p = err_from_is_err_and c.from_residual-in_err-params.result c.from_residual-in_err-params.ensures.1 in
    rw (p.1) tt

pub returns-in_err-copy : goal.returns-in_err-copy
returns-in_err-copy c =
    let p = err_from_is_err_and c.from_residual-in_err-copy.result c.from_residual-in_err-copy.ensures.1 in
    rw (p.1) tt
