use Rattle.derived_forms.proofs.RowSteps.{clauses_first}
use Rattle.derived_forms.proofs.derived.clauses.Goals as goal

pub returns-in-Some : goal.returns-in-Some
returns-in-Some c = λ n. clauses_first n c.args.at c.args.forms c.in-Some.key c.pop.new.self c.clauses_with.result (c.in-Some.ensures {u = tt}) (c.clauses_with.ensures n)
