use Rattle.std.proofs.Common.{List, ap, sym, ◌∙◌}
use Rattle.scheme_data.specs.declared.datum.Datum.{Datum}
use Rattle.scheme_data.specs.Forms.{form}
use Rattle.core_forms.specs.Table.{core_begin}
use Rattle.core_forms.specs.Code.{data_of}
use Rattle.derived_forms.proofs.RowSteps.{form_none, form_made}
use Rattle.derived_forms.proofs.derived.clause_parts.Goals as goal

pub returns-in_ok-stacked-in-None : goal.returns-in_ok-stacked-in-None
returns-in_ok-stacked-in-None c = ap (λ (ds : List Datum). core_begin c.args.at (data_of ds)) (c.in_ok-stacked-in-None.ensures {u = tt})
    ∙ sym (form_none c.args.at (form c.args.key) (form c.args.head) (data_of c.args.items) (data_of c.args.forms) (c.in-None.ensures {u = tt}))

pub returns-in_ok-push-in-Some : goal.returns-in_ok-push-in-Some
returns-in_ok-push-in-Some c = form_made c.args.at (form c.args.head) c.args.key c.in_ok-test-in-Some.test c.in_ok-action-in-Some.action c.in-Some.choices c.args.items c.args.forms c.push.new.self
    (c.in_ok-test-in-Some.ensures {u = tt}) (c.in_ok-action-in-Some.ensures {u = tt}) (c.in_ok-push-in-Some.ensures {u = tt}).ok (c.in-Some.ensures {u = tt})
