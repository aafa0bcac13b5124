use Rattle.c_write.proofs.Words.{function_word}
use Rattle.c_write.proofs.statement.put_callee.Goals as goal

pub put_name-requires : goal.put_name-requires
put_name-requires c = function_word c.in-Fun.name (rw c.in-Fun.is at c.requires)
