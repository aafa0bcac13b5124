use Rattle.std.proofs.Common.{◌∙◌, ◌++◌, [], drop, map, sym, ap, List}
use Rattle.std.proofs.lemmas.Result.{err_from_is_err_and}
use Rattle.scheme_data.specs.Forms.{form, forms}
use Rattle.syntax_rules.specs.Patterns.{as_list, names_in, paths_in, patterns_of}
use Rattle.syntax_rules.specs.TreeViews.{pattern_if, template_if, the_pattern, the_template}
use Rattle.syntax_rules.proofs.MadeRules.{not_apart, no_pattern, no_template, made}
use Rattle.syntax_rules.proofs.RuleParts.{rest_is}
use Rattle.scheme_data.specs.declared.datum.Datum.{Datum}
use Rattle.syntax_rules.proofs.reading.make_rule.Goals as goal

pub returns-then-not-branch : goal.returns-then-not-branch
returns-then-not-branch c =
    let fs = forms (map form (drop 1 c.args.ps.now)) in
    not_apart (names_in c.args.literals.now fs) c.new-names.result.table (paths_in c.args.literals.now [] 1 fs) (form c.args.t.now) (patterns_of c.args.literals.now fs) c.in_ok-add_all.field-0
    c.new-names.ensures.table c.in_ok-add_all.ensures.apart c.if-not-branch.true

pub returns-in_default-2 : goal.returns-in_default-2
returns-in_default-2 c =
    let fs = forms (map form (drop 1 c.args.ps.now)) in
    no_template (names_in c.args.literals.now fs) c.add_all.new.self.table (paths_in c.args.literals.now [] 1 fs) c.add_all.new.self.paths (form c.args.t.now) (patterns_of c.args.literals.now fs)
    (c.in_ok-add_all.ensures.names c.if-not-branch.false ∙ ap (λ n. n ++ names_in c.args.literals.now fs) c.new-names.ensures.table)
    (c.in_ok-add_all.ensures.paths c.if-not-branch.false ∙ ap (λ n. n ++ paths_in c.args.literals.now [] 1 fs) c.new-names.ensures.paths)
    (sym (ap template_if c.in_default-2.is) ∙ c.in_ok-template.ensures)

pub returns : goal.returns
returns c =
    let fs = forms (map form (drop 1 c.args.ps.now)) in
    made (names_in c.args.literals.now fs) c.new-names.result.table c.add_all.new.self.table (paths_in c.args.literals.now [] 1 fs) c.add_all.new.self.paths (form c.args.t.now) (patterns_of c.args.literals.now fs)
    c.in_ok-add_all.field-0 (the_pattern c.in-Some.pattern) (the_template c.in-Some-2.template) c.new-names.ensures.table
    (c.in_ok-add_all.ensures.names c.if-not-branch.false ∙ ap (λ n. n ++ names_in c.args.literals.now fs) c.new-names.ensures.table)
    (c.in_ok-add_all.ensures.paths c.if-not-branch.false ∙ ap (λ n. n ++ paths_in c.args.literals.now [] 1 fs) c.new-names.ensures.paths)
    (sym (ap pattern_if c.in-Some.is) ∙ c.in_ok-pattern.ensures ∙ ap (λ (ds : List Datum). as_list (patterns_of c.args.literals.now (forms (map form ds)))) (rest_is 1 c.args.ps.now))
    c.in_ok-add_all.ensures.apart c.if-not-branch.false (sym (ap template_if c.in-Some-2.is) ∙ c.in_ok-template.ensures)

pub returns-in_err-pattern : goal.returns-in_err-pattern
returns-in_err-pattern c = let p = err_from_is_err_and c.from_residual.result c.from_residual.ensures.1 in rw p.1 tt

pub returns-in_err-add_all : goal.returns-in_err-add_all
returns-in_err-add_all c = let p = err_from_is_err_and c.from_residual-in_err-add_all.result c.from_residual-in_err-add_all.ensures.1 in rw p.1 tt

pub returns-in_err-template : goal.returns-in_err-template
returns-in_err-template c = let p = err_from_is_err_and c.from_residual-in_err-template.result c.from_residual-in_err-template.ensures.1 in rw p.1 tt

pub returns-in_default : goal.returns-in_default
returns-in_default c =
    let fs = forms (map form (drop 1 c.args.ps.now)) in
    no_pattern (names_in c.args.literals.now fs) (paths_in c.args.literals.now [] 1 fs) (form c.args.t.now) (patterns_of c.args.literals.now fs)
    (sym (ap pattern_if c.in_default.is) ∙ c.in_ok-pattern.ensures ∙ ap (λ (ds : List Datum). as_list (patterns_of c.args.literals.now (forms (map form ds)))) (rest_is 1 c.args.ps.now))
