use Rattle.core_forms.proofs.Views.{three_are}
use Rattle.expansion_steps.proofs.looking.defined_as.Goals as goal

pub returns : goal.returns
returns c = three_are c.args.at c.args.word c.args.symbol c.args.value c.new-items.result c.push.new.self c.push-2.new.self c.push-3.new.self c.new-items.ensures (c.in_ok-push.ensures {u = tt}).ok (c.in_ok-push-2.ensures {u = tt}).ok (c.in_ok-push-3.ensures {u = tt}).ok
