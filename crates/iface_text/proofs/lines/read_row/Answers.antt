use Rattle.std.proofs.Common.{sym}
use Rattle.iface_text.proofs.RowLines.{row_of_none}
use Rattle.iface_text.proofs.RowParts.{made_row, made_row_line}
use Rattle.iface_text.proofs.lines.read_row.Goals as goal

pub returns-in_default-clause-value : goal.returns-in_default-clause-value
returns-in_default-clause-value c = sym (row_of_none c.args.line.now c.in_default.ensures.none)

pub returns-clause-value : goal.returns-clause-value
returns-clause-value c =
    let parts = c.in-Some.parts in
    made_row c.args.line.now parts.name.now c.in_ok-name.name parts.params c.in_ok-params.params c.in-Some.ensures.some c.in-Some.ensures.are c.in_ok-name.ensures c.in_ok-params.ensures

pub returns-clause-some : goal.returns-clause-some
returns-clause-some c =
    let parts = c.in-Some.parts in
    made_row_line c.args.line.now parts.name.now c.in_ok-name.name parts.params c.in_ok-params.params c.in-Some.ensures.some c.in-Some.ensures.are c.in_ok-name.ensures c.in_ok-params.ensures
