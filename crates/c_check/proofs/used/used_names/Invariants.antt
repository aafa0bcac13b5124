use Rattle.c_tree.specs.Functions.{item_of}
use Rattle.c_meaning.specs.Checked.{used_by}
use Rattle.c_check.proofs.Using.{UsedFrom}
use Rattle.c_check.proofs.used.used_names.Given as goal

abbrev pub invariant-loop-item : goal.invariant-loop-item
invariant-loop-item l = UsedFrom (λ item. used_by (item_of item)) l.initial.used l.items l.item-index l.used
