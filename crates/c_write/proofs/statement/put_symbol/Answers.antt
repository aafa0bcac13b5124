use Rattle.c_write.proofs.Words.{symbol_word}
use Rattle.c_write.proofs.statement.put_symbol.Goals as goal

pub put_name-requires : goal.put_name-requires
put_name-requires c = symbol_word c.args.name.now c.requires
