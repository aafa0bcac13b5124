use Rattle.std.proofs.Common.{sym}
use Rattle.linker.proofs.reading.read_indexed.Goals as goal

pub returns-clause-some : goal.returns-clause-some
returns-clause-some c = record { is_text = c.in-Ok.ensures.answer; only = λ other text. sym (c.in-Ok.ensures.given other text) }
