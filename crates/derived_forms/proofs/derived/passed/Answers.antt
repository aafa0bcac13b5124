use Rattle.core_forms.specs.Table.{t}
use Rattle.derived_forms.proofs.NamedForms.{one_use, passed_means}
use Rattle.derived_forms.proofs.derived.passed.Goals as goal

pub returns : goal.returns
returns c = passed_means c.args.n.now c.new_bound.new.n c.args.at c.args.value c.args.receiver c.new_bound.new.uses c.in_ok-bound.bound c.args.forms (c.in_ok-bound.ensures {u = tt}).bound
    (one_use c.new-call.result c.push.new.self c.new_bound.new.uses c.args.receiver (t c.args.n.now c.args.at) c.new-call.ensures (c.in_ok-push.ensures {u = tt}).ok (c.in_ok-bound.ensures {u = tt}).used)
