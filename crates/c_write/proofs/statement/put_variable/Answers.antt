use Rattle.c_write.proofs.Words.{variable_word}
use Rattle.c_write.proofs.statement.put_variable.Goals as goal

pub put_name-requires : goal.put_name-requires
put_name-requires c = variable_word c.args.name.now c.requires
