use Rattle.std.proofs.Common.{◌≡◌, length}
use Rattle.core_forms.specs.Code.{data_of}
use Rattle.derived_forms.specs.LoopViews.{columns_of, columns_view}
use Rattle.derived_forms.proofs.LoopForms.{in_front}
use Rattle.derived_forms.proofs.loops.variables_of.Given as goal

abbrev pub invariant-loop-datum : goal.invariant-loop-datum
invariant-loop-datum l = in_front (columns_view l.variables) (columns_of (data_of l.header)) ≡ columns_of (data_of l.initial.header)

abbrev pub decreases-loop-datum : goal.decreases-loop-datum
decreases-loop-datum l = length l.header
