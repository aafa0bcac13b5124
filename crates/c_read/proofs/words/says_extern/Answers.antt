use Rattle.std.proofs.Common.{codes}
use Rattle.scheme_data.specs.Names.{is_same}
use Rattle.c_read.specs.declared.kinds.Kind.TheVariants.{Extern}
use Rattle.c_read.proofs.Says.{says_extern, told, said}
use Rattle.c_read.proofs.words.says_extern.Goals as goal

pub returns-clause-value : goal.returns-clause-value
returns-clause-value c = told (λ v. is_same v (codes "extern")) Extern c.word_kind.result c.args.word.now c.is.result c.is.ensures c.word_kind.ensures (says_extern c.args.word.now)

pub returns-clause-same : goal.returns-clause-same
returns-clause-same c holds = said c.args.word.now (codes "extern") c.is.result (told (λ v. is_same v (codes "extern")) Extern c.word_kind.result c.args.word.now c.is.result c.is.ensures c.word_kind.ensures (says_extern c.args.word.now)) holds
