use Rattle.object_text.proofs.Rows.{no_line_end, no_row}
use Rattle.object_text.proofs.lines.read_row_line.Goals as goal

pub returns-in_default-clause-none : goal.returns-in_default-clause-none
returns-in_default-clause-none c = no_line_end c.args.bytes.now c.in_default.ensures.none

pub returns-in_default-2-clause-none : goal.returns-in_default-2-clause-none
returns-in_default-2-clause-none c =
    let cut = c.in-Some.cut in
    let none = rw c.in_default-2.is at c.in_ok-part.ensures.none in
    no_row c.args.bytes.now cut.before.now cut.after.now c.in-Some.ensures.some c.in-Some.ensures.before none
