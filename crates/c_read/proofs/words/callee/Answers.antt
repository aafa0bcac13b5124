use Rattle.c_read.proofs.Classes.{callee_spelled}
use Rattle.c_read.proofs.words.callee.Goals as goal

pub returns-clause-spelled : goal.returns-clause-spelled
returns-clause-spelled c = callee_spelled c.args.word.now c.kind.result c.callee_in.result c.kind.ensures c.callee_in.ensures
