use Rattle.std.proofs.Common.{sym, ◌∙◌}
use Rattle.scheme_data.specs.Forms.{form}
use Rattle.expansion_steps.proofs.Definings.{value_missing, value_more, value_some, value_none}
use Rattle.expansion_steps.proofs.Decisions.{empty_is, not_empty}
use Rattle.expansion_steps.proofs.looking.value.Goals as goal

pub returns-in_default : goal.returns-in_default
returns-in_default c = value_missing (form c.args.word) (form c.args.symbol) c.args.others c.in_default.ensures.0

pub returns-then-not-is_empty : goal.returns-then-not-is_empty
returns-then-not-is_empty c = value_more (form c.args.word) (form c.args.symbol) c.in-Some.value c.args.others c.pop.new.self c.in-Some.ensures (not_empty c.is_empty.result c.pop.new.self c.if-not-is_empty.true c.is_empty.ensures)

pub returns-in-Some-2 : goal.returns-in-Some-2
returns-in-Some-2 c = value_some (form c.args.word) (form c.args.symbol) c.in-Some.value c.args.others c.pop.new.self c.in-Some-2.binder c.in-Some.ensures (empty_is c.is_empty.result c.pop.new.self c.if-not-is_empty.false c.is_empty.ensures) (sym c.in-Some-2.is ∙ c.in_ok-binder.ensures)

pub returns-in-None : goal.returns-in-None
returns-in-None c = value_none (form c.args.word) (form c.args.symbol) c.in-Some.value c.args.others c.pop.new.self c.in-Some.ensures (empty_is c.is_empty.result c.pop.new.self c.if-not-is_empty.false c.is_empty.ensures) (sym c.in-None.is ∙ c.in_ok-binder.ensures)
