use Rattle.std.proofs.Common.{rules, sym, ap, ◌∙◌}
use Rattle.std.specs.Option.{option_map}
use Rattle.scheme_data.specs.Forms.{form}
use Rattle.derived_forms.specs.LoopViews.{with_step}
use Rattle.derived_forms.proofs.LoopForms.{variable-found, variable-long}
use Rattle.derived_forms.proofs.loops.variable_of.Goals as goal

pub returns-then-not-is_empty : goal.returns-then-not-is_empty
returns-then-not-is_empty c = variable-long c.args.variable c.in_ok-items.items c.pop.new.self c.pop-2.new.self c.pop-step.new.self c.in-Some.items c.in-Some-pop.name c.in-Some-pop-2.value c.pop-step.result
    c.in-Some.ensures c.in_ok-items.ensures c.in-Some-pop.ensures c.in-Some-pop-2.ensures c.pop-step.ensures (search rules)

pub returns-in_default-2 : goal.returns-in_default-2
returns-in_default-2 c = sym (variable-found c.args.variable c.in_ok-items.items c.pop.new.self c.pop-2.new.self c.pop-step.new.self c.in-Some.items c.in-Some-pop.name c.in-Some-pop-2.value c.pop-step.result
    c.in-Some.ensures c.in_ok-items.ensures c.in-Some-pop.ensures c.in-Some-pop-2.ensures c.pop-step.ensures (search rules)
    ∙ ap (with_step (form c.in-Some-pop.name) (form c.in-Some-pop-2.value)) (sym c.in_ok-step.ensures ∙ ap (option_map form) c.in_default-2.is))
