use Rattle.std.proofs.Common.{arith}
use Rattle.resolver.proofs.Calls.{sequence_is}
use Rattle.resolver.proofs.scope.sequence.Goals as goal

pub returns : goal.returns
returns c = sequence_is c.args.nodes (λ e. grind arith)
