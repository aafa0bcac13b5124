use Rattle.std.proofs.Common.{Some, sym, ◌∙◌}
use Rattle.scheme_data.specs.Forms.{form, next, listed}
use Rattle.core_forms.specs.Bodies.{procedure}
use Rattle.core_forms.specs.Code.{data_of}
use Rattle.expansion_steps.specs.Decided.{procedure_in}
use Rattle.syntax_rules.proofs.Places.{same_place}
use Rattle.expansion_steps.proofs.Definings.{defined_as, target_none, body_none, names_none, procedure_some, procedure_none}
use Rattle.expansion_steps.proofs.Decisions.{empty_is, not_empty}
use Rattle.expansion_steps.proofs.looking.procedure.Goals as goal

pub returns-in_default : goal.returns-in_default
returns-in_default c = target_none (form c.args.target) (data_of c.args.body) c.in_default.ensures

pub returns-then-is_empty : goal.returns-then-is_empty
returns-then-is_empty c = body_none (form c.args.target) c.args.body (empty_is c.is_empty.result c.args.body c.if-is_empty.true c.is_empty.ensures)

pub returns-in_default-pop : goal.returns-in_default-pop
returns-in_default-pop c = names_none (form c.args.target) c.in-Some.items c.in_ok-names.names c.args.body c.place-at.result (c.place-at.ensures ∙ same_place c.args.target) c.in-Some.ensures c.in_ok-names.ensures c.in_default-pop.ensures.0

pub returns-in-Some-2 : goal.returns-in-Some-2
returns-in-Some-2 c = defined_as (procedure_in (form c.args.target) (data_of c.args.body)) (Some (procedure c.in-Some-2.binder (next (listed c.place-at.result (data_of c.pop.new.self)) (data_of c.args.body)))) c.parameters.result (procedure_some (form c.args.target) c.in-Some.items c.in_ok-names.names c.args.body c.place-at.result (c.place-at.ensures ∙ same_place c.args.target) c.in-Some.ensures c.in_ok-names.ensures c.in-Some-pop.symbol c.pop.new.self c.in-Some-2.binder c.in-Some-pop.ensures (not_empty c.is_empty.result c.args.body c.if-is_empty.false c.is_empty.ensures) (sym c.in-Some-2.is ∙ c.in_ok-binder.ensures)) c.parameters.ensures

pub returns-in-None : goal.returns-in-None
returns-in-None c = procedure_none (form c.args.target) c.in-Some.items c.in_ok-names.names c.args.body c.place-at.result (c.place-at.ensures ∙ same_place c.args.target) c.in-Some.ensures c.in_ok-names.ensures c.in-Some-pop.symbol c.pop.new.self c.in-Some-pop.ensures (not_empty c.is_empty.result c.args.body c.if-is_empty.false c.is_empty.ensures) (sym c.in-None.is ∙ c.in_ok-binder.ensures)
