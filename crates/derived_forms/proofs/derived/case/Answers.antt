use Rattle.core_forms.specs.declared.words.Keyword.TheVariants as key
use Rattle.derived_forms.proofs.RowSteps.{row_first}
use Rattle.derived_forms.proofs.derived.case.Goals as goal

pub returns-in-Some : goal.returns-in-Some
returns-in-Some c = row_first c.args.n.now key.Case c.args.at c.args.forms c.in-Some.key c.pop.new.self c.case_with.result c.case_with.new.n (c.in-Some.ensures {u = tt}) c.case_with.ensures
