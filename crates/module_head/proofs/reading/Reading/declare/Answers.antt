use Rattle.std.proofs.Common.{ap, sym, ◌∙◌}
use Rattle.std.proofs.lemmas.Result.{err_from_is_err_and}
use Rattle.module_head.specs.Steps.{declare}
use Rattle.module_head.proofs.Takings.{declared_twice, declared_once}
use Rattle.module_head.proofs.reading.Reading.declare.Goals as goal

pub returns-in_err-insert : goal.returns-in_err-insert
returns-in_err-insert c =
    let p = err_from_is_err_and c.from_residual.result c.from_residual.ensures.1 in
    rw (p.1, p.2) tt

pub returns-in_err-copy : goal.returns-in_err-copy
returns-in_err-copy c =
    let p = err_from_is_err_and c.from_residual-in_err-copy.result c.from_residual-in_err-copy.ensures.1 in
    rw (p.1, p.2) tt

pub returns-then-not-branch : goal.returns-then-not-branch
returns-then-not-branch c =
    let bytes = c.as_bytes.ensures in
    ap (declare c.args.self.now) (sym bytes)
    ∙ declared_twice c.args.self.now c.as_bytes.result.now c.in_ok-copy.field-0 c.in_ok-insert.field-0 c.in_ok-insert.ensures.added c.if-not-branch.true (c.in_ok-copy.ensures ∙ sym bytes)

pub returns : goal.returns
returns c =
    ap (declare c.args.self.now) (sym c.as_bytes.ensures)
    ∙ declared_once c.args.self.now c.as_bytes.result.now c.in_ok-insert.field-0 c.insert.new.self c.in_ok-insert.ensures.added c.in_ok-insert.ensures.ok c.if-not-branch.false
