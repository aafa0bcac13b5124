use Rattle.c_read.proofs.Classes.{atom_spelled}
use Rattle.c_read.proofs.words.atom.Goals as goal

pub returns-clause-spelled : goal.returns-clause-spelled
returns-clause-spelled c = atom_spelled c.args.word.now c.kind.result c.atom_in.result c.kind.ensures c.atom_in.ensures
