use Rattle.std.proofs.Common.{ap, ◌∙◌}
use Rattle.core_forms.specs.Table.{derived}
use Rattle.core_forms.specs.Code.{data_of}
use Rattle.core_forms.specs.declared.words.Keyword.{Keyword}
use Rattle.core_forms.specs.declared.words.Keyword.TheVariants as key
use Rattle.derived_forms.proofs.RowSteps.{row_meant, row_same}
use Rattle.derived_forms.proofs.derived.row_of.Goals as goal

pub returns-in-LetStar : goal.returns-in-LetStar
returns-in-LetStar c = row_meant c.args.keyword key.LetStar c.args.at c.args.forms c.args.n.now c.args.n.now c.let_star_form.result c.meant.result c.in-LetStar.is c.meant.ensures (c.let_star_form.ensures c.args.n.now)

pub returns-in-Let : goal.returns-in-Let
returns-in-Let c = row_same c.args.keyword key.Let c.args.at c.args.forms c.args.n.now c.let_row.new.n c.let_row.result c.in-Let.is c.let_row.ensures

pub returns-in-Cond : goal.returns-in-Cond
returns-in-Cond c = row_meant c.args.keyword key.Cond c.args.at c.args.forms c.args.n.now c.cond.new.n c.cond.result c.meant-in-Cond.result c.in-Cond.is c.meant-in-Cond.ensures c.cond.ensures

pub returns-in-Case : goal.returns-in-Case
returns-in-Case c = row_meant c.args.keyword key.Case c.args.at c.args.forms c.args.n.now c.case.new.n c.case.result c.meant-in-Case.result c.in-Case.is c.meant-in-Case.ensures c.case.ensures

pub returns-in-Clauses : goal.returns-in-Clauses
returns-in-Clauses c = row_meant c.args.keyword key.Clauses c.args.at c.args.forms c.args.n.now c.args.n.now c.clauses.result c.meant-in-Clauses.result c.in-Clauses.is c.meant-in-Clauses.ensures (c.clauses.ensures c.args.n.now)

pub returns-in-Or : goal.returns-in-Or
returns-in-Or c = row_meant c.args.keyword key.Or c.args.at c.args.forms c.args.n.now c.or.new.n c.or.result c.meant-in-Or.result c.in-Or.is c.meant-in-Or.ensures c.or.ensures

pub returns-in-When : goal.returns-in-When
returns-in-When c = row_meant c.args.keyword key.When c.args.at c.args.forms c.args.n.now c.args.n.now c.when.result c.meant-in-When.result c.in-When.is c.meant-in-When.ensures (c.when.ensures c.args.n.now)

pub returns-in-Unless : goal.returns-in-Unless
returns-in-Unless c = row_meant c.args.keyword key.Unless c.args.at c.args.forms c.args.n.now c.args.n.now c.unless.result c.meant-in-Unless.result c.in-Unless.is c.meant-in-Unless.ensures (c.unless.ensures c.args.n.now)

pub returns-in-Do : goal.returns-in-Do
returns-in-Do c = row_meant c.args.keyword key.Do c.args.at c.args.forms c.args.n.now c.repeated.new.n c.repeated.result c.meant-in-Do.result c.in-Do.is c.meant-in-Do.ensures c.repeated.ensures

pub returns-in-And : goal.returns-in-And
returns-in-And c = ap (λ (k : Keyword). derived c.args.n.now c.args.at k (data_of c.args.forms)) c.in-And.is ∙ c.and.ensures c.args.n.now
