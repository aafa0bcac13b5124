use Rattle.std.proofs.Common.{◌≡◌, [], drop}
use Rattle.object_text.specs.Header.{are_new}
use Rattle.object_text.proofs.header.are_distinct.Given as goal

abbrev pub invariant-loop-row : goal.invariant-loop-row
invariant-loop-row l = are_new [] l.rows ≡ are_new l.names (drop l.row-index l.rows)
