use Rattle.std.proofs.lemmas.Result.{err_from_is_err_and}
use Rattle.expander.specs.Tops.{found_in}
use Rattle.expander.proofs.TopScans.{scan_found, scan_refused}
use Rattle.expander.proofs.scanning.scan.Goals as goal

pub returns-in_err-scan_forms : goal.returns-in_err-scan_forms
returns-in_err-scan_forms c =
    let p = err_from_is_err_and c.from_residual.result c.from_residual.ensures.1 in
    rw (p.1, p.2) (scan_refused c.args.forms.now _ _ _ (found_in c.scan_forms.new.found) c.in_err-scan_forms.field-0.0 c.declare_begin-splices.ensures c.new.ensures c.new-2.ensures (c.in_err-scan_forms.ensures {u = tt}))

pub returns : goal.returns
returns c = scan_found c.args.forms.now _ _ _ (found_in c.scan_forms.new.found) c.declare_begin-splices.ensures c.new.ensures c.new-2.ensures (c.in_ok-scan_forms.ensures {u = tt})
