use Rattle.std.proofs.Common.{◌∷◌, []}
use Rattle.c_meaning.specs.Checked.{used_in_expr}
use Rattle.c_check.proofs.Using.{used-both}
use Rattle.c_check.proofs.used.note_assignment.Goals as goal

pub returns : goal.returns
returns c = used-both c.args.used.now (c.args.x.now ∷ []) c.note_name.new.used (used_in_expr c.args.e.now) c.note_expression.new.used c.in_ok-note_name.ensures c.in_ok-note_expression.ensures
