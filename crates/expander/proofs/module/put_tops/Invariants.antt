use Rattle.std.proofs.Common.{◌≡◌, ◌++◌, reverse, length}
use Rattle.core_forms.specs.Modules.{tops_of}
use Rattle.core_forms.specs.Code.{data_of}
use Rattle.expander.specs.Tops.{all_tops}
use Rattle.expander.proofs.module.put_tops.Given as goal

abbrev pub invariant-loop-form : goal.invariant-loop-form
invariant-loop-form l = tops_of (data_of (reverse l.forms)) ++ all_tops l.tops ≡ tops_of (data_of l.fn.forms) ++ all_tops l.fn.tops

abbrev pub decreases-loop-form : goal.decreases-loop-form
decreases-loop-form l = length l.forms
