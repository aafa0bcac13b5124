use Rattle.c_tree.specs.Names.{is_entry_name}
use Rattle.c_read.proofs.NameWords.{name_read}
use Rattle.c_read.proofs.skips.entry_name.Goals as goal

pub returns-clause-read : goal.returns-clause-read
returns-clause-read c =
    name_read is_entry_name c.args.tokens.now c.word.new.tokens c.in_ok-word.word c.name_if.result c.names_entry.result c.in_ok-word.ensures.read c.names_entry.ensures c.name_if.ensures.read
