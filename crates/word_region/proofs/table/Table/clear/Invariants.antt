use Rattle.word_region.proofs.Joined.{IsCleared}
use Rattle.word_region.proofs.table.Table.clear.Given as goal

abbrev pub invariant-loop-k : goal.invariant-loop-k
invariant-loop-k l = IsCleared l.fn.self l.self l.from l.k
