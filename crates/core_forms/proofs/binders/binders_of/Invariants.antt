use Rattle.std.proofs.Common.{◌≡◌, [], drop, Some}
use Rattle.core_forms.specs.Scope.{all_marked}
use Rattle.core_forms.specs.Names.{binders_of}
use Rattle.core_forms.specs.Code.{may_have_types, data_of}
use Rattle.core_forms.proofs.Distinct.{glued}
use Rattle.core_forms.proofs.binders.binders_of.Given as goal

abbrev pub invariant-loop-datum : goal.invariant-loop-datum
invariant-loop-datum l =
    (l.seen ≡ all_marked l.binders) × (binders_of (may_have_types l.types) (data_of l.items) ≡ glued l.binders (binders_of (may_have_types l.types) (data_of (drop l.datum-index l.items)))) × (glued l.binders (Some []) ≡ Some l.binders)
