use Rattle.derived_forms.proofs.NamedForms.{once_more_form}
use Rattle.derived_forms.proofs.loops.once_more.Goals as goal

pub returns : goal.returns
returns c = once_more_form c.args.at c.args.body c.push.new.self c.args.again c.core.result (c.in_ok-push.ensures {u = tt}).ok c.core.ensures
