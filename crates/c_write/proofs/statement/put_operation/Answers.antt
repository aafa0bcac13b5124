use Rattle.c_tree.specs.Operations.{op_text}
use Rattle.c_write.proofs.Adding.{word_adds}
use Rattle.c_write.proofs.Words.{op_word}
use Rattle.c_write.proofs.statement.put_operation.Goals as goal

pub returns : goal.returns
returns c = word_adds c.args.out.now c.push_name.new.text (op_text c.args.op) (op_word c.args.op) c.in_ok-push_name.ensures
