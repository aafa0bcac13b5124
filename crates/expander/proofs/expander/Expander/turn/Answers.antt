use Rattle.std.proofs.Common.{refl}
use Rattle.expander.proofs.expander.Expander.turn.Goals as goal

pub returns-clause-turns : goal.returns-clause-turns
returns-clause-turns c = c.turn.ensures

pub returns-clause-around : goal.returns-clause-around
returns-clause-around c = record { macros = refl; scope = refl }
