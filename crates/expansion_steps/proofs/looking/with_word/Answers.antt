use Rattle.expansion_steps.proofs.Pieces.{word_listed}
use Rattle.expansion_steps.proofs.looking.with_word.Goals as goal

pub returns : goal.returns
returns c = word_listed c.args.at c.args.word c.args.others c.push.new.self c.in_ok-listed.field-0 (c.in_ok-push.ensures {u = tt}).ok (c.in_ok-listed.ensures {u = tt})
