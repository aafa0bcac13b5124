use Rattle.std.proofs.Common.{◌∙◌, ap}
use Rattle.syntax_rules.specs.Filling.{part}
use Rattle.syntax_rules.proofs.Elements.{part_end, part_no_rows}
use Rattle.scheme_data.specs.Forms.{form}
use Rattle.syntax_rules.proofs.usage.+part.Goals as goal

pub returns-in_default : goal.returns-in_default
returns-in_default t c = part_end (form c.args.d.now) c.args.path.now c.args.rows.now c.in_default.ensures.cases

pub returns-in-Item : goal.returns-in-Item
returns-in-Item t c = rw (c.in-Some.ensures.cases.0, c.in-Item.is) (c.part.ensures ∙ ap (λ e. part e c.in-Some.path.now c.args.rows.now) c.element.ensures)

pub returns-in-Some-split_first : goal.returns-in-Some-split_first
returns-in-Some-split_first t c = rw (c.in-Some.ensures.cases.0, c.in-Row.is, c.in-Some-split_first.ensures.cases.0)
    (c.part-in-Some-split_first.ensures ∙ ap (λ e. part e c.in-Some.path.now c.in-Some-split_first.rows.now) c.element_behind.ensures)

pub returns-in-None : goal.returns-in-None
returns-in-None t c = rw (c.in-Some.ensures.cases.0, c.in-Row.is) (part_no_rows (form c.args.d.now) c.in-Some.path.now c.args.rows.now c.in-Row.i c.in-None.ensures.cases)
