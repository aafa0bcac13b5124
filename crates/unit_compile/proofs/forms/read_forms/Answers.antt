use Rattle.std.proofs.Common.{sym, subst, List, Ok, Err}
use Rattle.std.proofs.lemmas.Result.{err_from_is_err_and}
use Rattle.scheme_data.specs.declared.datum.Datum.{Datum}
use Rattle.unit_compile.specs.declared.error.UnitErr.{UnitErr}
use Rattle.unit_compile.specs.Refusals.{AreRefused, AreRight, Refuses}
use Rattle.unit_compile.proofs.Refusals.{fault_decides, forms_decide, carried}
use Rattle.unit_compile.proofs.forms.read_forms.Goals as goal

pub returns-in_err-forms-clause-refused : goal.returns-in_err-forms-clause-refused
returns-in_err-forms-clause-refused c refusal is =
    let p = err_from_is_err_and c.from_residual.result c.from_residual.ensures.1 in
    rw (p.1, p.2) (fault_decides c.args.source.now c.in_err-forms.field-0.0 refusal c.in_err-forms.ensures.given c.in_err-forms.ensures.refused is)

pub returns-in_err-check_forms-clause-refused : goal.returns-in_err-check_forms-clause-refused
returns-in_err-check_forms-clause-refused c refusal is =
    let p = err_from_is_err_and c.from_residual-in_err-check_forms.result c.from_residual-in_err-check_forms.ensures.1 in
    let e = c.in_err-check_forms.field-0.0 in
    let checked : (r : UnitErr) → AreRefused c.in_ok-forms.forms r → Refuses {A = List Datum} r (Err e) =
    λ r h. carried (Unit {0}) (List Datum) e r (c.in_err-check_forms.ensures.refused r (subst (λ (ds : List Datum). AreRefused ds r) (sym c.as_slice.ensures) h)) in
    rw (p.1, p.2) (forms_decide {A = List Datum} c.args.source.now c.in_ok-forms.forms (Err e) refusal c.in_ok-forms.ensures.given c.in_ok-forms.ensures.refused checked is)

pub returns-clause-value : goal.returns-clause-value
returns-clause-value c = record {
  read = c.in_ok-forms.ensures.answer;
  read_once = c.in_ok-forms.ensures.given;
  are_right = subst (λ (ds : List Datum). AreRight ds) c.as_slice.ensures c.in_ok-check_forms.ensures.checked;
  proper = c.in_ok-forms.ensures.proper;
}

pub returns-clause-refused : goal.returns-clause-refused
returns-clause-refused c refusal is =
    forms_decide {A = List Datum} c.args.source.now c.in_ok-forms.forms (Ok c.in_ok-forms.forms) refusal c.in_ok-forms.ensures.given c.in_ok-forms.ensures.refused
    (λ r h. c.in_ok-check_forms.ensures.refused r (subst (λ (ds : List Datum). AreRefused ds r) (sym c.as_slice.ensures) h)) is
