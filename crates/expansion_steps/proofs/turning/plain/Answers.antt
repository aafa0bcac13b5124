use Rattle.expansion_steps.proofs.Turns.{called}
use Rattle.expansion_steps.proofs.turning.plain.Goals as goal

pub returns-in-List : goal.returns-in-List
returns-in-List c = λ n. called n c.in-List.at c.in-List.items c.args.datum c.call.result c.in-List.is (c.call.ensures n)
