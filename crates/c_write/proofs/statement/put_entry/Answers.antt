use Rattle.c_write.proofs.Words.{entry_word}
use Rattle.c_write.proofs.Adding.{adds_both, from_anything}
use Rattle.c_write.proofs.statement.put_entry.Goals as goal

pub put_name-requires : goal.put_name-requires
put_name-requires c = entry_word c.args.name.now c.requires

pub returns : goal.returns
returns c = from_anything (adds_both c.in_ok-put_mark.ensures c.in_ok-put_name.ensures)
