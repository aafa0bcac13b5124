use Rattle.std.proofs.Common.{◌≡◌, List, length}
use Rattle.core_forms.specs.Mid.{Parts}
use Rattle.core_forms.specs.Table.{lambdas}
use Rattle.core_forms.specs.Code.{data_of}
use Rattle.core_forms.specs.Working.{parts_then}
use Rattle.core_forms.specs.declared.core_form.Binder.{Binder}
use Rattle.core_forms.proofs.core_rows.put_lambdas.Given as goal

abbrev pub decreases-loop-value : goal.decreases-loop-value
decreases-loop-value l = length l.values

abbrev pub invariant-loop-value : goal.invariant-loop-value
invariant-loop-value l =
    (xs : List Binder) → (qs : Parts) → lambdas l.at xs (data_of l.values) (parts_then xs l.parts qs) ≡ lambdas l.at xs (data_of l.initial.values) (parts_then xs l.initial.parts qs)
