use Rattle.c_check.proofs.Ending.{WantedFrom}
use Rattle.c_check.proofs.ends.wanted_breach.Given as goal

abbrev pub invariant-loop-item : goal.invariant-loop-item
invariant-loop-item l = WantedFrom l.used l.names l.items l.item-index
