use Rattle.std.proofs.Common.{◌≡◌, [], length, reverse}
use Rattle.core_forms.specs.Mid.{Parts}
use Rattle.core_forms.specs.Table.{raws}
use Rattle.core_forms.specs.Code.{data_of}
use Rattle.core_forms.specs.Working.{lists_of, parts_then}
use Rattle.core_forms.proofs.core_rows.raws.Given as goal

abbrev pub decreases-loop-form : goal.decreases-loop-form
decreases-loop-form l = length l.forms

abbrev pub invariant-loop-form : goal.invariant-loop-form
invariant-loop-form l =
    (qs : Parts) → raws (lists_of l.lists) (data_of (reverse l.forms)) (parts_then [] l.parts qs) ≡ raws (lists_of l.lists) (data_of (reverse l.initial.forms)) qs
