use Rattle.scheme_data.specs.Forms.{form}
use Rattle.core_forms.specs.Code.{data_of}
use Rattle.derived_forms.proofs.ClauseSteps.{taken}
use Rattle.derived_forms.proofs.RowSteps.{clause_refused, clause_empty, clause_made}
use Rattle.derived_forms.proofs.derived.clause_with_key.Goals as goal

pub returns-in_default : goal.returns-in_default
returns-in_default c = λ n. clause_refused n c.args.at (form c.args.key) (form c.args.clause) (data_of c.args.forms) (c.in_default.ensures {u = tt})

pub returns-then-is_empty : goal.returns-then-is_empty
returns-then-is_empty c = λ n. clause_empty n c.args.at (form c.args.key) (form c.args.clause) c.in-Some.items (data_of c.args.forms) (c.in-Some.ensures {u = tt}) (c.is_empty.ensures.0 c.if-is_empty.true)

pub returns : goal.returns
returns c = λ n. clause_made n c.args.at (form c.args.key) (form c.args.clause) c.in-Some.items c.remove-head.result c.remove-head.new.self (data_of c.args.forms) _ (c.in-Some.ensures {u = tt})
    (taken _ _ _ c.remove-head.ensures.item c.remove-head.ensures.rest) (c.in_ok-clause_parts.ensures {u = tt})
