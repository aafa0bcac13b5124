use Rattle.core_forms.specs.declared.words.Keyword.TheVariants as key
use Rattle.derived_forms.proofs.RowSteps.{row_first}
use Rattle.derived_forms.proofs.derived.let_star_form.Goals as goal

pub returns-in-Some : goal.returns-in-Some
returns-in-Some c = λ n. row_first n key.LetStar c.args.at c.args.forms c.in-Some.first c.pop.new.self c.let_star_with.result n (c.in-Some.ensures {u = tt}) (c.let_star_with.ensures n)
