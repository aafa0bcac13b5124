use Rattle.simulation.proofs.Faithful.{keeps_meaning}
use Rattle.simulation.proofs.law.Goals as goal

pub returns : goal.returns
returns c = keeps_meaning
