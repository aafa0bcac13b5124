use Rattle.std.proofs.Common.{arith}
use Rattle.expander.proofs.EntryWalks.{node_deep, node_leads, node_ready}
use Rattle.expander.proofs.walking.node_form.Goals as goal

pub returns-then-node-room-clause-leads : goal.returns-then-node-room-clause-leads
returns-then-node-room-clause-leads c = node_deep c.args.room c.args.node c.requires.nests (omega arith)

pub returns-clause-leads : goal.returns-clause-leads
returns-clause-leads c = node_leads c.args.room c.args.node c.requires.nests (omega arith)

pub returns-clause-ready : goal.returns-clause-ready
returns-clause-ready c = node_ready c.args.room c.args.node c.requires.nests (omega arith)
