use Rattle.scheme_data.specs.Forms.{form}
use Rattle.core_forms.specs.Code.{data_of}
use Rattle.derived_forms.proofs.NamedForms.{case_pair, case_meant}
use Rattle.derived_forms.proofs.derived.case_form.Goals as goal

pub returns-clause-meant : goal.returns-clause-meant
returns-clause-meant c = case_meant c.args.at _ (form c.args.key) c.in_ok-mark.mark c.args.n.now (data_of c.push-2.new.self) (data_of c.args.clauses) (c.in_ok-open.ensures {u = tt})
    (case_pair c.args.at c.args.n.now c.in_ok-mark.mark c.args.key c.in_ok-new_name.field-0 c.new-pair.result c.push.new.self c.push-2.new.self c.new-pair.ensures (c.in_ok-push.ensures {u = tt}).ok (c.in_ok-push-2.ensures {u = tt}).ok
    (c.in_ok-new_name.ensures {u = tt}) (c.in_ok-mark.ensures {u = tt}).first) (c.in_ok-mark.ensures {u = tt}).first
