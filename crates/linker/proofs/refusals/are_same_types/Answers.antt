use Rattle.linker.proofs.Places.{lengths_differ}
use Rattle.linker.proofs.refusals.are_same_types.Goals as goal

pub returns-then-a-b : goal.returns-then-a-b
returns-then-a-b c = lengths_differ c.args.a.now c.args.b.now c.if-a-b.true
