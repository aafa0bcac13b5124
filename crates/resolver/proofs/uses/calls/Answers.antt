use Rattle.std.proofs.Common.{map, ap, ◌∙◌}
use Rattle.std.proofs.lemmas.Result.{err_from_is_err_and}
use Rattle.std.specs.Option.{option_copied}
use Rattle.resolver.specs.Trees.{import_tree}
use Rattle.resolver.specs.Elaboration.{from}
use Rattle.resolver.proofs.UseLists.{not_imported, imported_from, call_stops, call_goes_on}
use Rattle.resolver.proofs.uses.calls.Goals as goal

pub returns-in_default : goal.returns-in_default
returns-in_default c =
    let none = not_imported c.args.interfaces.now (map import_tree c.args.imports.now) c.in_ok-modules.modules.entries c.name-name.result.now c.get.result c.in_ok-modules.ensures c.get.ensures.value c.in_default.is in
    call_stops c.args.interfaces.now (map import_tree c.args.imports.now) c.args.outside.now _ _ c.loop-place.place c.name-name.result.now c.name-name.ensures none c.loop-place.invariant

pub returns-in_default-row : goal.returns-in_default-row
returns-in_default-row c =
    let offers = imported_from c.args.interfaces.now (map import_tree c.args.imports.now) c.in_ok-modules.modules.entries c.name-name.result.now c.as_bytes.result.now c.get.result c.in-Some.field-0 c.row.result c.in_ok-modules.ensures c.get.ensures.value c.in-Some.is c.as_bytes.ensures c.row.ensures in
    call_stops c.args.interfaces.now (map import_tree c.args.imports.now) c.args.outside.now _ _ c.loop-place.place c.name-name.result.now c.name-name.ensures
    (offers ∙ ap (λ r. from c.in-Some.field-0.now.now (option_copied r)) c.in_default-row.is)
    c.loop-place.invariant

pub loop-place-preserved : goal.loop-place-preserved
loop-place-preserved c =
    let offers = imported_from c.args.interfaces.now (map import_tree c.args.imports.now) c.in_ok-modules.modules.entries c.name-name.result.now c.as_bytes.result.now c.get.result c.in-Some.field-0 c.row.result c.in_ok-modules.ensures c.get.ensures.value c.in-Some.is c.as_bytes.ensures c.row.ensures in
    call_goes_on c.args.interfaces.now (map import_tree c.args.imports.now) c.args.outside.now c.loop-place.taken c.push.new.self _ _ c.loop-place.place c.name-name.result.now c.name-name.ensures
    (offers ∙ ap (λ r. from c.in-Some.field-0.now.now (option_copied r)) c.in-Some-row.is)
    c.in_ok-push.ensures.ok
    c.loop-place.invariant

pub returns-in_err-modules : goal.returns-in_err-modules
returns-in_err-modules c =
    let p = err_from_is_err_and c.from_residual.result c.from_residual.ensures.1 in
    rw (p.1) tt

pub returns-in_err-push : goal.returns-in_err-push
returns-in_err-push c =
    let p = err_from_is_err_and c.from_residual-in_err-push.result c.from_residual-in_err-push.ensures.1 in
    rw (p.1) tt
