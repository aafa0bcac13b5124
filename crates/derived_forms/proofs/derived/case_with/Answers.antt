use Rattle.derived_forms.proofs.RowSteps.{case_refused, case_made}
use Rattle.derived_forms.proofs.derived.case_with.Goals as goal

pub returns-in-Err : goal.returns-in-Err
returns-in-Err c = case_refused c.args.n.now c.args.at _ c.args.forms c.in-Err.error (c.in-Err.ensures {u = tt})

pub returns-in_ok-open-in-Ok : goal.returns-in_ok-open-in-Ok
returns-in_ok-open-in-Ok c = case_made c.args.n.now c.args.at c.args.key c.args.forms c.in-Ok.clauses c.case_form.new.n c.in_ok-open-in-Ok.open (c.in-Ok.ensures {u = tt}) (c.in_ok-open-in-Ok.ensures {u = tt}).meant (c.in_ok-open-in-Ok.ensures {u = tt}).counted
