use Rattle.whole_program.proofs.Whole.{keeps}
use Rattle.whole_program.proofs.law.Goals as goal

pub returns : goal.returns
returns c = keeps c.law.ensures
