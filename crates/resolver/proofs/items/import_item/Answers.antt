use Rattle.std.proofs.Common.{sym, ◌∙◌, arith}
use Rattle.std.proofs.lemmas.Result.{err_from_is_err_and}
use Rattle.std.proofs.lemmas.Bool.Decides.{nat_tests}
use Rattle.resolver.proofs.ItemParts.{no_module, no_imported_name, item_is}
use Rattle.resolver.proofs.items.import_item.Goals as goal

pub returns-in_default-untyped_name : goal.returns-in_default-untyped_name
returns-in_default-untyped_name c =
    no_module _ c.in-Some.ds.now c.in-Some-split_last.front.now _ c.in-Some.ensures c.in-Some-split_last.ensures.cases.0 c.in_default-untyped_name.ensures

pub returns-in_default-2 : goal.returns-in_default-2
returns-in_default-2 c =
    no_imported_name _ c.in-Some.ds.now c.in-Some-split_last.front.now _ c.in-Some.ensures c.in-Some-split_last.ensures.cases.0
    (sym c.in_default-2.is ∙ c.in_ok-names.ensures)

pub returns : goal.returns
returns c =
    item_is _ c.in-Some.ds.now c.in-Some-split_last.front.now _ _ _ c.in-Some-2.names c.in-Some.ensures c.in-Some-split_last.ensures.cases.0
    (grind (arith, nat_tests))
    c.in-Some-untyped_name.ensures c.in_ok-copy.ensures (sym c.in-Some-2.is ∙ c.in_ok-names.ensures)

pub returns-in_err-names : goal.returns-in_err-names
returns-in_err-names c =
    let p = err_from_is_err_and c.from_residual.result c.from_residual.ensures.1 in
    rw (p.1) tt

pub returns-in_err-copy : goal.returns-in_err-copy
returns-in_err-copy c =
    let p = err_from_is_err_and c.from_residual-in_err-copy.result c.from_residual-in_err-copy.ensures.1 in
    rw (p.1) tt
