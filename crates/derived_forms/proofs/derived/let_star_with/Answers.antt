use Rattle.derived_forms.proofs.RowSteps.{let_refused, let_stacked}
use Rattle.derived_forms.proofs.derived.let_star_with.Goals as goal

pub returns-in-None : goal.returns-in-None
returns-in-None c = λ n. let_refused n c.args.at _ _ (c.in-None.ensures {u = tt})

pub returns-in_ok-bindings-in-Some : goal.returns-in_ok-bindings-in-Some
returns-in_ok-bindings-in-Some c = λ n. let_stacked n c.args.at _ c.in-Some.bindings c.in_ok-bindings-in-Some.bindings c.args.body c.let_star.result (c.in-Some.ensures {u = tt}) (c.in_ok-bindings-in-Some.ensures {u = tt}) (c.let_star.ensures n)
