use Rattle.c_check.proofs.Agreeing.{noted}
use Rattle.c_check.proofs.steps.note.Goals as goal

pub returns : goal.returns
returns c = noted c.args.names.now c.insert.new.self c.args.name.now c.in_ok-insert.field-0 c.in_ok-insert.ensures.added c.in_ok-insert.ensures.ok
