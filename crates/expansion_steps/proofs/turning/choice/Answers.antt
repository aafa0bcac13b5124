use Rattle.expansion_steps.proofs.Pieces.{choice_is}
use Rattle.expansion_steps.proofs.turning.choice.Goals as goal

pub returns : goal.returns
returns c = choice_is c.args.at c.args.first c.args.second c.args.third c.in_ok-outer.outer c.push_raw.new.parts c.new.result (c.in_ok-outer.ensures {u = tt}) (c.in_ok-push_raw.ensures {u = tt}) c.new.ensures
