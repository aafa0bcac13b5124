use Rattle.c_tree.specs.Names.{is_end_label_name}
use Rattle.c_read.proofs.NameWords.{name_read}
use Rattle.c_read.proofs.skips.end_label_name.Goals as goal

pub returns-clause-read : goal.returns-clause-read
returns-clause-read c =
    name_read is_end_label_name c.args.tokens.now c.word.new.tokens c.in_ok-word.word c.name_if.result c.names_end_label.result c.in_ok-word.ensures.read c.names_end_label.ensures c.name_if.ensures.read
