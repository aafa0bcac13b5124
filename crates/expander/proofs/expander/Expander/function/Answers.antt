use Rattle.expander.proofs.TopForms.{at_top}
use Rattle.expander.proofs.expander.Expander.function.Goals as goal

pub returns-clause-walked : goal.returns-clause-walked
returns-clause-walked c = at_top _ _ _ _ _ _ _ c.requires c.walk.ensures.walked
