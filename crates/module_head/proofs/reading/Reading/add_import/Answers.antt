use Rattle.std.proofs.lemmas.Result.{err_from_is_err_and}
use Rattle.scheme_data.specs.Forms.{form, form_place}
use Rattle.module_head.specs.Heads.{imported, import_item}
use Rattle.module_head.proofs.Takings.{wrong_item}
use Rattle.module_head.proofs.reading.Reading.add_import.Goals as goal

pub returns-in_err-item : goal.returns-in_err-item
returns-in_err-item c =
    let p = err_from_is_err_and c.from_residual.result c.from_residual.ensures.1 in
    rw (p.1, p.2) tt

pub returns-in_default : goal.returns-in_default
returns-in_default c =
    let d = form c.args.d.now in
    wrong_item c.args.self.now imported (form_place d) c.place.result _ (import_item d) c.in_ok-item.ensures c.in_default.is c.place.ensures

pub returns-in_err-push : goal.returns-in_err-push
returns-in_err-push c =
    let p = err_from_is_err_and c.from_residual-in_err-push.result c.from_residual-in_err-push.ensures.1 in
    rw (p.1, p.2) tt
