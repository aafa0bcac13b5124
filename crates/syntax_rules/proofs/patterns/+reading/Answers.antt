use Rattle.std.proofs.Common.{◌∙◌, sym, ap, arith, map, Some, List, drop}
use Rattle.std.proofs.lemmas.Result.{err_from_is_err_and}
use Rattle.std.proofs.lemmas.List.{drop_all}
use Rattle.scheme_data.specs.Forms.{form, forms}
use Rattle.scheme_data.specs.declared.datum.Datum.{Datum}
use Rattle.syntax_rules.specs.Patterns.{are_dots}
use Rattle.syntax_rules.specs.TreeViews.{pattern_if, the_pattern}
use Rattle.syntax_rules.specs.declared.tree.Pattern.{Pattern}
use Rattle.syntax_rules.specs.declared.tree.Pattern.TheViews as pattern
use Rattle.syntax_rules.proofs.Dots.{forms_at, next_is}
use Rattle.syntax_rules.proofs.ReadLists.{pattern_on, pattern_dots, pattern_end}
use Rattle.syntax_rules.proofs.patterns.+reading.Goals as goal

pub list_pattern_of-returns-then-dots_end : goal.list_pattern_of-returns-then-dots_end
list_pattern_of-returns-then-dots_end t c =
    ap (λ (ps : List Pattern). Some (the_pattern (pattern.Dots ps c.in_ok-new.field-0))) c.front.view_is
    ∙ pattern_dots c.args.literals.now (forms (map form c.args.ds.now)) _ _ (form c.index-ds-i.result) c.loop-i.front c.in-Some.p c.in_ok-new.field-0 c.dots_end.result c.loop-i.invariant
    (forms_at c.args.ds.now c.loop-i.i c.index-ds-i.result (omega arith) c.index-ds-i.is)
    (c.dots_end.ensures ∙ ap (λ n. are_dots (forms (map form (drop n c.args.ds.now)))) (next_is c.loop-i.i)) c.if-dots_end.true
    (sym (ap pattern_if c.in-Some.is) ∙ c.in_ok-p.ensures) c.in_ok-new.ensures

pub list_pattern_of-loop-i-preserved : goal.list_pattern_of-loop-i-preserved
list_pattern_of-loop-i-preserved t c =
    pattern_on c.args.literals.now (forms (map form c.args.ds.now)) _ _ (form c.index-ds-i.result) c.loop-i.front c.push.new.self c.in-Some.p c.dots_end.result c.loop-i.invariant
    (forms_at c.args.ds.now c.loop-i.i c.index-ds-i.result (omega arith) c.index-ds-i.is)
    (c.dots_end.ensures ∙ ap (λ n. are_dots (forms (map form (drop n c.args.ds.now)))) (next_is c.loop-i.i)) c.if-dots_end.false
    (sym (ap pattern_if c.in-Some.is) ∙ c.in_ok-p.ensures) c.in_ok-push.ensures.ok

pub list_pattern_of-returns : goal.list_pattern_of-returns
list_pattern_of-returns t c =
    pattern_end c.args.literals.now (forms (map form c.args.ds.now)) _ c.loop-i.front c.loop-i.invariant (ap (λ (ds : List Datum). forms (map form ds)) (drop_all c.loop-i.i c.args.ds.now (omega arith)))

pub list_pattern_of-returns-in_err-p : goal.list_pattern_of-returns-in_err-p
list_pattern_of-returns-in_err-p t c = let p = err_from_is_err_and c.from_residual.result c.from_residual.ensures.1 in rw p.1 tt

pub list_pattern_of-returns-in_err-new : goal.list_pattern_of-returns-in_err-new
list_pattern_of-returns-in_err-new t c = let p = err_from_is_err_and c.from_residual-in_err-new.result c.from_residual-in_err-new.ensures.1 in rw p.1 tt

pub list_pattern_of-returns-in_err-push : goal.list_pattern_of-returns-in_err-push
list_pattern_of-returns-in_err-push t c = let p = err_from_is_err_and c.from_residual-in_err-push.result c.from_residual-in_err-push.ensures.1 in rw p.1 tt
