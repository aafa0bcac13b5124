use Rattle.std.proofs.Common.{arith}
use Rattle.scheme_read.proofs.Depth.{read_low}
use Rattle.scheme_read.proofs.Exact.{reads_gives, reads_refuses}
use Rattle.scheme_read.proofs.Proper.{read_proper}
use Rattle.scheme_read.proofs.read.read_all.Goals as goal

pub returns-clause-given : goal.returns-clause-given
returns-clause-given c = λ ds h. reads_gives c.args.bytes.now _ ds c.read.ensures h

pub returns-clause-refused : goal.returns-clause-refused
returns-clause-refused c = λ e h. reads_refuses c.args.bytes.now _ e c.read.ensures h

pub returns-clause-proper : goal.returns-clause-proper
returns-clause-proper c = read_proper c.args.bytes.now _ (λ i. let fits = c.type_inv.bytes i in omega arith) c.read.ensures

pub returns-clause-nesting : goal.returns-clause-nesting
returns-clause-nesting c = read_low c.args.bytes.now _ c.read.ensures
