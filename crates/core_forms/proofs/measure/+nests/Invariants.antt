use Rattle.std.proofs.Common.{◌≡◌, drop}
use Rattle.core_forms.specs.Code.{data_of, all_nest_in}
use Rattle.core_forms.proofs.measure.+nests.Given as goal

abbrev pub invariant-all_nest_within-loop-item : goal.invariant-all_nest_within-loop-item
invariant-all_nest_within-loop-item l = all_nest_in l.room (data_of l.items) ≡ all_nest_in l.room (data_of (drop l.item-index l.items))
