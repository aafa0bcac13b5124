use Rattle.std.proofs.Common.{ap}
use Rattle.std.specs.List.{flat_map}
use Rattle.c_meaning.specs.Breaches.{called_in}
use Rattle.c_meaning.specs.Checked.{used_in_argument}
use Rattle.c_check.proofs.Using.{used-both, used-as}
use Rattle.c_check.proofs.used.note_call.Goals as goal

pub returns : goal.returns
returns c =
    used-both c.args.used.now (called_in c.args.call.now.callee) c.note_callee.new.used (flat_map used_in_argument c.args.call.now.args) c.note_arguments.new.used c.in_ok-note_callee.ensures
    (used-as c.note_callee.new.used (flat_map used_in_argument c.as_slice.result.now) (flat_map used_in_argument c.args.call.now.args) c.note_arguments.new.used (ap (flat_map used_in_argument) c.as_slice.ensures) c.in_ok-note_arguments.ensures)
