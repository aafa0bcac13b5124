use Rattle.c_check.specs.Knowns.{known_of}
use Rattle.c_check.proofs.ItemWalk.{ItemsFrom}
use Rattle.c_check.proofs.items.items_breach.Given as goal

abbrev pub invariant-loop-item : goal.invariant-loop-item
invariant-loop-item l = ItemsFrom (known_of l.fn.known) l.items l.item-index (known_of l.known)
