use Rattle.iface_text.proofs.Refusals.{reads, gives}
use Rattle.iface_text.proofs.interface.read_iface.Goals as goal

pub returns-clause-answer : goal.returns-clause-answer
returns-clause-answer c = reads c.args.bytes.now c.read.result c.read.ensures

pub returns-clause-found : goal.returns-clause-found
returns-clause-found c = gives c.args.bytes.now c.read.result c.read.ensures
