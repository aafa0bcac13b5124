use Rattle.std.proofs.Common.{refl}
use Rattle.std.proofs.lemmas.Result.{err_from_is_err_and}
use Rattle.resolver.proofs.UseLists.{name_more, names_all}
use Rattle.resolver.proofs.uses.add_item.Goals as goal

pub loop-name-preserved : goal.loop-name-preserved
loop-name-preserved c =
    name_more c.as_slice-name-items.result.now c.loop-name.name-index c.name-item.result c.args.item.now.module_name c.args.modules.now.entries c.loop-name.modules.entries c.insert.new.self.entries c.as_bytes.result _
    c.loop-name-test.true c.name-item.is c.as_bytes.ensures refl c.loop-name.invariant c.in_ok-insert.ensures.updates.0

pub loop-name-init : goal.loop-name-init
loop-name-init c name = refl

pub returns : goal.returns
returns c =
    names_all c.args.item.now.names c.as_slice-name-items.result.now c.loop-name.name-index c.args.item.now.module_name c.args.modules.now.entries c.loop-name.modules.entries c.loop-name-test.false c.as_slice-name-items.ensures c.loop-name.invariant

pub returns-in_err-insert : goal.returns-in_err-insert
returns-in_err-insert c =
    let p = err_from_is_err_and c.from_residual.result c.from_residual.ensures.1 in
    rw (p.1) tt
