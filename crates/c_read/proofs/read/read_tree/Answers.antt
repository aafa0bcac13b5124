use Rattle.std.proofs.Common.{sym}
use Rattle.c_read.proofs.Reading.{read_answer}
use Rattle.c_read.proofs.read.read_tree.Goals as goal

pub returns : goal.returns
returns c = read_answer c.args.b.now _ c.read_items.new.tokens c.read_items.result (sym c.new-left.ensures) c.read_items.ensures.read c.read_items.ensures.spelled
