use Rattle.c_meaning.specs.Checked.{used_in_argument}
use Rattle.c_check.proofs.Using.{UsedFrom}
use Rattle.c_check.proofs.used.note_arguments.Given as goal

abbrev pub invariant-loop-arg : goal.invariant-loop-arg
invariant-loop-arg l = UsedFrom used_in_argument l.fn.used l.args l.arg-index l.used
