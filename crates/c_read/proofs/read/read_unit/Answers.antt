use Rattle.std.specs.Prelude.{Ok}
use Rattle.c_read.proofs.Reading.{unit_given}
use Rattle.c_read.proofs.read.read_unit.Goals as goal

pub returns-clause-given : goal.returns-clause-given
returns-clause-given c = unit_given c.args.b.now (Ok (record { items = c.in_ok-items.items })) c.in_ok-items.ensures
