use Rattle.std.proofs.Common.{◌≡◌, drop, Some}
use Rattle.core_forms.specs.Code.{data_of, left_all}
use Rattle.core_forms.proofs.measure.+left.Given as goal

abbrev pub invariant-left_after_all-loop-item : goal.invariant-left_after_all-loop-item
invariant-left_after_all-loop-item l = left_all (Some l.most) (data_of l.items) ≡ left_all (Some l.left) (data_of (drop l.item-index l.items))
