use Rattle.std.specs.Prelude.{Ok}
use Rattle.c_read.proofs.Reading.{program_given}
use Rattle.c_read.proofs.read.read_c.Goals as goal

pub returns-clause-given : goal.returns-clause-given
returns-clause-given c = program_given c.args.b.now (Ok (record { items = c.in_ok-items.items })) c.in_ok-items.ensures
