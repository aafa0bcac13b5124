use Rattle.std.proofs.Common.{length}
use Rattle.core_forms.specs.Code.{data_of}
use Rattle.core_forms.proofs.Sides.{SidesAs}
use Rattle.core_forms.proofs.binders.bindings_of.Given as goal

abbrev pub decreases-loop-binding : goal.decreases-loop-binding
decreases-loop-binding l = length l.bindings

abbrev pub invariant-loop-binding : goal.invariant-loop-binding
invariant-loop-binding l = SidesAs (data_of l.initial.bindings) l.names l.values l.bindings
