use Rattle.std.proofs.Common.{◌∙◌, sym, ap, arith, map, List}
use Rattle.std.proofs.lemmas.List.{drop_all}
use Rattle.scheme_data.specs.Forms.{form, forms}
use Rattle.scheme_data.specs.declared.datum.Datum.{Datum}
use Rattle.syntax_rules.specs.TreeViews.{template_if}
use Rattle.syntax_rules.proofs.Dots.{forms_at}
use Rattle.syntax_rules.proofs.ReadLists.{no_element, element_on, elements_end, element_at}
use Rattle.syntax_rules.proofs.names.Names.+templating.Goals as goal

pub list_template-returns-in_default : goal.list_template-returns-in_default
list_template-returns-in_default t c =
    let d = c.index-ds-i.result in
    no_element c.args.self.now.table c.args.self.now.paths c.args.depth (forms (map form c.args.ds.now)) _ _ (form d) c.loop-i.elements c.loop-i.dots_may_come c.is_dots.result c.loop-i.invariant
    (forms_at c.args.ds.now c.loop-i.i d (omega arith) c.index-ds-i.is) c.is_dots.ensures c.if-is_dots.false
    (sym (ap template_if c.in_default.is) ∙ c.in_ok-t.ensures ∙ element_at c.args.self.now.table c.args.self.now.paths c.args.depth c.args.ds.now c.loop-i.i d c.index-ds-i-in-loop-i.result c.dots_follow.result c.index-ds-i.is c.index-ds-i-in-loop-i.is (omega arith) c.dots_follow.ensures)

pub list_template-loop-i-preserved : goal.list_template-loop-i-preserved
list_template-loop-i-preserved t c =
    let d = c.index-ds-i.result in
    element_on c.args.self.now.table c.args.self.now.paths c.args.depth (forms (map form c.args.ds.now)) _ _ (form d) c.loop-i.elements c.push.new.self c.in-Some.t c.loop-i.dots_may_come c.is_dots.result c.loop-i.invariant
    (forms_at c.args.ds.now c.loop-i.i d (omega arith) c.index-ds-i.is) c.is_dots.ensures c.if-is_dots.false
    (sym (ap template_if c.in-Some.is) ∙ c.in_ok-t.ensures ∙ element_at c.args.self.now.table c.args.self.now.paths c.args.depth c.args.ds.now c.loop-i.i d c.index-ds-i-in-loop-i.result c.dots_follow.result c.index-ds-i.is c.index-ds-i-in-loop-i.is (omega arith) c.dots_follow.ensures)
    c.in_ok-push.ensures.ok

pub list_template-returns : goal.list_template-returns
list_template-returns t c =
    elements_end c.args.self.now.table c.args.self.now.paths c.args.depth (forms (map form c.args.ds.now)) _ c.loop-i.elements c.loop-i.dots_may_come c.loop-i.invariant
    (ap (λ (ds : List Datum). forms (map form ds)) (drop_all c.loop-i.i c.args.ds.now (omega arith)))
