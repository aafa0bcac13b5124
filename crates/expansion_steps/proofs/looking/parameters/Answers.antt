use Rattle.expansion_steps.proofs.Definings.{parameters_stand}
use Rattle.expansion_steps.proofs.looking.parameters.Goals as goal

pub returns : goal.returns
returns c = parameters_stand c.args.at c.args.binder c.args.names c.in_ok-names.names c.args.body c.push.new.self c.in_ok-names.ensures ((c.in_ok-push.ensures {u = tt}).ok)
