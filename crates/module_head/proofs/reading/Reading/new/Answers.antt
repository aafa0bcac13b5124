use Rattle.module_head.proofs.Takings.{bare_of}
use Rattle.module_head.proofs.reading.Reading.new.Goals as goal

pub returns : goal.returns
returns c = bare_of c.args.name _ _ _ _ _ c.new.ensures c.new-2.ensures c.new-3.ensures c.new-4.ensures c.new-5.ensures
