use Rattle.std.proofs.Common.{sym, ◌∙◌, arith}
use Rattle.std.proofs.lemmas.Bool.Decides.{nat_tests}
use Rattle.module_head.proofs.Imports.{no_module, no_imported_name, import_is}
use Rattle.module_head.proofs.items.listed_import.Goals as goal

pub returns-in_default-symbol : goal.returns-in_default-symbol
returns-in_default-symbol c =
    no_module c.args.at c.args.ds.now c.in-Some.front.now _ c.in-Some.ensures.cases.0 c.in_default-symbol.ensures

pub returns-in_default-2 : goal.returns-in_default-2
returns-in_default-2 c =
    no_imported_name c.args.at c.args.ds.now c.in-Some.front.now _ c.in-Some.ensures.cases.0 (sym c.in_default-2.is ∙ c.in_ok-names.ensures)

pub returns : goal.returns
returns c =
    import_is c.args.at c.args.ds.now c.in-Some.front.now _ _ _ c.in-Some-2.names c.in-Some.ensures.cases.0 (grind (arith, nat_tests))
    c.in-Some-symbol.ensures c.in_ok-copy.ensures (sym c.in-Some-2.is ∙ c.in_ok-names.ensures)
