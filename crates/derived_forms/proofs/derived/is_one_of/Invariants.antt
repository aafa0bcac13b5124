use Rattle.std.proofs.Common.{◌≡◌, length}
use Rattle.std.specs.Prelude.{codes}
use Rattle.scheme_data.specs.Forms.{form, next, join}
use Rattle.core_forms.specs.Scope.{sure}
use Rattle.core_forms.specs.Table.{same_as}
use Rattle.core_forms.specs.Code.{data_of}
use Rattle.derived_forms.proofs.derived.is_one_of.Given as goal

abbrev pub invariant-loop-datum : goal.invariant-loop-datum
invariant-loop-datum l = join (data_of l.tests) (same_as l.at (form l.key) (data_of l.choices)) ≡ next (sure l.at (codes "or")) (same_as l.at (form l.key) (data_of l.fn.choices))

abbrev pub decreases-loop-datum : goal.decreases-loop-datum
decreases-loop-datum l = length l.choices
