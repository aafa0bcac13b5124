use Rattle.core_forms.specs.Code.{data_of}
use Rattle.std.proofs.Common.{◌∷◌, ap, sym, ◌∙◌}
use Rattle.std.specs.Option.{option_map}
use Rattle.derived_forms.specs.LoopViews.{do_view, do_parts}
use Rattle.derived_forms.proofs.ClauseSteps.{taken}
use Rattle.derived_forms.proofs.NamedForms.{do_headless, do_endless, do_untested, do_found}
use Rattle.derived_forms.proofs.loops.do_parts.Goals as goal

pub returns-in_err-header : goal.returns-in_err-header
returns-in_err-header c = ap (option_map do_view) c.from_residual-in_err-header.ensures ∙ do_headless c.args.forms c.pop.new.self c.in_ok-first.first c.in_ok-first.ensures c.in_err-header.ensures

pub returns-in_err-ending : goal.returns-in_err-ending
returns-in_err-ending c = ap (option_map do_view) c.from_residual-in_err-ending.ensures ∙ do_endless c.args.forms c.pop.new.self c.pop-2.new.self c.in_ok-first.first c.in_ok-second.second _ c.in_ok-first.ensures c.in_ok-second.ensures c.in_ok-header.ensures c.in_err-ending.ensures

pub returns-then-is_empty : goal.returns-then-is_empty
returns-then-is_empty c = do_untested c.args.forms c.pop.new.self c.pop-2.new.self c.in_ok-ending.ending c.in_ok-first.first c.in_ok-second.second _ c.in_ok-first.ensures c.in_ok-second.ensures c.in_ok-header.ensures c.in_ok-ending.ensures (c.is_empty.ensures.0 c.if-is_empty.true)

pub returns : goal.returns
returns c = do_found c.args.forms c.pop.new.self c.pop-2.new.self c.in_ok-ending.ending c.remove-test.new.self c.in_ok-header.header c.in_ok-first.first c.in_ok-second.second c.remove-test.result c.in_ok-first.ensures c.in_ok-second.ensures c.in_ok-header.ensures c.in_ok-ending.ensures
    (taken c.in_ok-ending.ending c.remove-test.result c.remove-test.new.self c.remove-test.ensures.item c.remove-test.ensures.rest)

pub returns-in_err-first : goal.returns-in_err-first
returns-in_err-first c = ap (option_map do_view) c.from_residual.ensures ∙ sym (ap (λ fs. do_parts (data_of fs)) (c.in_err-first.ensures {u = tt}).0)

pub returns-in_err-second : goal.returns-in_err-second
returns-in_err-second c = ap (option_map do_view) c.from_residual-in_err-second.ensures ∙ sym (ap (λ fs. do_parts (data_of fs)) (c.in_ok-first.ensures {u = tt} ∙ ap (λ r. c.in_ok-first.first ∷ r) (c.in_err-second.ensures {u = tt}).0))
