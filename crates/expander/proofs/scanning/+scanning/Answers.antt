use Rattle.std.proofs.Common.{sym, ◌∙◌}
use Rattle.std.proofs.lemmas.Result.{err_from_is_err_and}
use Rattle.expander.specs.Tops.{found_in}
use Rattle.expander.proofs.TopScans.{spliced_scan, scan_stops}
use Rattle.expander.proofs.scanning.+scanning.Goals as goal

pub scan_form-returns-then-is_spliced : goal.scan_form-returns-then-is_spliced
scan_form-returns-then-is_spliced t c =
    rw c.in-List.is (spliced_scan c.args.splices c.in-List.field-0 c.in-List.items _ c.word-item.result (found_in c.args.found.now) c.scan_forms.result (found_in c.scan_forms.new.found)
    c.as_slice.ensures c.in-len1-up.len_at_least c.word-item.is (sym c.says.ensures ∙ c.if-says.false) (sym c.is_spliced.ensures ∙ c.if-is_spliced.true) c.scan_forms.ensures)

pub scan_forms-returns-in_err-scan_form : goal.scan_forms-returns-in_err-scan_form
scan_forms-returns-in_err-scan_form t c =
    let p = err_from_is_err_and c.from_residual.result c.from_residual.ensures.1 in
    rw (p.1, p.2) (scan_stops c.args.splices c.args.forms.now c.loop-datum.datum-index c.datum-item.result _ (found_in c.loop-datum.found) (found_in c.scan_form.new.found) (found_in c.scan_form.new.found)
    c.in_err-scan_form.field-0.0 c.loop-datum.invariant c.loop-datum-test.true c.datum-item.is (c.in_err-scan_form.ensures {u = tt}))
