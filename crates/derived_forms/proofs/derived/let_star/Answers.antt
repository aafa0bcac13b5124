use Rattle.derived_forms.proofs.ClauseSteps.{not_empty}
use Rattle.derived_forms.proofs.RowSteps.{let_first, let_last}
use Rattle.derived_forms.proofs.derived.let_star.Goals as goal

pub returns-in-Some : goal.returns-in-Some
returns-in-Some c = λ n p. let_first n c.args.at p c.args.bindings c.in-Some.first c.pop.new.self c.args.body (c.in-Some.ensures {u = tt}) (not_empty _ _ c.if-is_empty.false c.is_empty.ensures)

pub returns-in_ok-push-in-None : goal.returns-in_ok-push-in-None
returns-in_ok-push-in-None c = λ n p. let_last n c.args.at p c.args.bindings c.args.body c.push.new.self c.new.result (c.in-None.ensures {u = tt}).0 (not_empty _ _ c.if-is_empty.false c.is_empty.ensures) c.new.ensures (c.in_ok-push-in-None.ensures {u = tt}).ok
