use Rattle.std.proofs.Common.{refl}
use Rattle.expander.proofs.expander.Expander.settle.Goals as goal

pub returns-clause-settles : goal.returns-clause-settles
returns-clause-settles c = c.settle.ensures

pub returns-clause-around : goal.returns-clause-around
returns-clause-around c = record { macros = refl; scope = refl }
