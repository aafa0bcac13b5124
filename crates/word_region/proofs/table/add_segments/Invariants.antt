use Rattle.word_region.proofs.Joined.{IsAdded}
use Rattle.word_region.proofs.table.add_segments.Given as goal

abbrev pub invariant-loop : goal.invariant-loop
invariant-loop l = IsAdded l.fn.segments.items l.segments.items l.counter
