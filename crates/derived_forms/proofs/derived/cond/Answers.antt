use Rattle.core_forms.specs.declared.words.Keyword.TheVariants as key
use Rattle.derived_forms.proofs.RowSteps.{row_first}
use Rattle.derived_forms.proofs.derived.cond.Goals as goal

pub returns-in-Some : goal.returns-in-Some
returns-in-Some c = row_first c.args.n.now key.Cond c.args.at c.args.forms c.in-Some.clause c.pop.new.self c.cond_with.result c.cond_with.new.n (c.in-Some.ensures {u = tt}) c.cond_with.ensures
