use Rattle.std.proofs.Common.{◌∙◌, ◌++◌, ◌∷◌, [], List, map, ap, refl, subst, arith}
use Rattle.std.proofs.lemmas.Result.{err_from_is_err_and}
use Rattle.scheme_data.specs.Forms.{form, forms, form_place, symbol, atom, listed}
use Rattle.syntax_rules.specs.Filling.{filled, all_filled, in_rows, times}
use Rattle.syntax_rules.specs.Made.{Made}
use Rattle.syntax_rules.specs.TreeViews.{the_template, templates, atom_of}
use Rattle.syntax_rules.specs.declared.tree.Template.{Template}
use Rattle.syntax_rules.proofs.Atoms.{form-Sym}
use Rattle.syntax_rules.proofs.Layers.{template-Given, template-Fresh, template-Constant, template-Compound, template-Repeated}
use Rattle.syntax_rules.proofs.Places.{same_place}
use Rattle.syntax_rules.proofs.Singles.{one_stopped, one_made}
use Rattle.syntax_rules.proofs.Sizes.{going_on, stopped, rest_at, row_stopped, row_made}
use Rattle.syntax_rules.proofs.usage.Usage.+filling.Goals as goal

pub fill_all-returns-in_err-left : goal.fill_all-returns-in_err-left
fill_all-returns-in_err-left t c =
    let p = err_from_is_err_and c.from_residual.result c.from_residual.ensures.1 in
    let d = form c.args.self.now.call.now in
    rw (p.1, p.2) (stopped c.args.left c.loop-t.left _ _ _ _ c.args.made.now c.loop-t.made c.fill.new.made c.in_err-left.field-0.0
    (rest_at c.args.self.now.paths.now d (form_place d) c.args.self.now.mark c.args.rows.now c.args.ts.now c.loop-t.t-index c.t-item.result (omega arith) c.t-item.is)
    c.loop-t.invariant.count c.in_err-left.ensures)

pub fill_all-loop-t-preserved : goal.fill_all-loop-t-preserved
fill_all-loop-t-preserved t c =
    let d = form c.args.self.now.call.now in
    let k = going_on c.args.left c.loop-t.left c.in_ok-left.left _ _ _ _ _ c.loop-t.made _
    (rest_at c.args.self.now.paths.now d (form_place d) c.args.self.now.mark c.args.rows.now c.args.ts.now c.loop-t.t-index c.t-item.result (omega arith) c.t-item.is)
    c.loop-t.invariant.made c.loop-t.invariant.count c.in_ok-left.ensures in
    record { made = k.0; count = k.1 }

pub fill_rows-returns-in_err-left : goal.fill_rows-returns-in_err-left
fill_rows-returns-in_err-left t c =
    let p = err_from_is_err_and c.from_residual-in_err-left.result c.from_residual-in_err-left.ensures.1 in
    let d = form c.args.self.now.call.now in
    rw (p.1, p.2) (row_stopped (λ r. filled c.args.self.now.paths.now d (form_place d) c.args.self.now.mark (c.args.rows.now ++ r ∷ []) (the_template c.args.t.now))
    c.args.left c.loop-row.left c.args.times c.loop-row.row _ c.args.made.now c.loop-row.made c.fill.new.made c.in_err-left.field-0.0 (omega arith)
    (ap (λ rows. filled c.args.self.now.paths.now d (form_place d) c.args.self.now.mark rows (the_template c.args.t.now)) (c.as_slice.ensures ∙ c.in_ok-inner.ensures))
    c.loop-row.invariant.count c.in_err-left.ensures)

pub fill_rows-loop-row-preserved : goal.fill_rows-loop-row-preserved
fill_rows-loop-row-preserved t c =
    let d = form c.args.self.now.call.now in
    let k = row_made (λ r. filled c.args.self.now.paths.now d (form_place d) c.args.self.now.mark (c.args.rows.now ++ r ∷ []) (the_template c.args.t.now))
    c.args.left c.loop-row.left c.in_ok-left.left c.loop-row.row _ _ c.loop-row.made _
    (ap (λ rows. filled c.args.self.now.paths.now d (form_place d) c.args.self.now.mark rows (the_template c.args.t.now)) (c.as_slice.ensures ∙ c.in_ok-inner.ensures))
    c.loop-row.invariant.made c.loop-row.invariant.count c.in_ok-left.ensures in
    record { made = k.0; count = k.1 }

pub fill-returns-in_err-left-in-Fresh : goal.fill-returns-in_err-left-in-Fresh
fill-returns-in_err-left-in-Fresh t c =
    let p = err_from_is_err_and c.from_residual.result c.from_residual.ensures.1 in
    let u = c.args.self.now in
    let d = form u.call.now in
    rw (p.1, p.2) (one_stopped _ (symbol (form_place (form c.args.self.now.call.now)) c.in-Fresh.name c.args.self.now.mark) c.args.left c.args.made.now c.args.made.now _
    (ap (λ (t : Template). filled u.paths.now d (form_place d) u.mark c.args.rows.now (the_template t)) c.in-Fresh.is ∙ ap (filled u.paths.now d (form_place d) u.mark c.args.rows.now) (template-Fresh c.in-Fresh.name)) refl c.in_err-left-in-Fresh.ensures)

pub fill-returns-in_err-copy-in-Fresh : goal.fill-returns-in_err-copy-in-Fresh
fill-returns-in_err-copy-in-Fresh t c = let p = err_from_is_err_and c.from_residual-in_err-copy-in-Fresh.result c.from_residual-in_err-copy-in-Fresh.ensures.1 in rw (p.1, p.2) tt

pub fill-returns-in_err-push-in-Fresh : goal.fill-returns-in_err-push-in-Fresh
fill-returns-in_err-push-in-Fresh t c = let p = err_from_is_err_and c.from_residual-in_err-push-in-Fresh.result c.from_residual-in_err-push-in-Fresh.ensures.1 in rw (p.1, p.2) tt

pub fill-returns-in_err-left-in-Constant : goal.fill-returns-in_err-left-in-Constant
fill-returns-in_err-left-in-Constant t c =
    let p = err_from_is_err_and c.from_residual-in_err-left-in-Constant.result c.from_residual-in_err-left-in-Constant.ensures.1 in
    let u = c.args.self.now in
    let d = form u.call.now in
    rw (p.1, p.2) (one_stopped _ (atom (form_place (form c.args.self.now.call.now)) (atom_of c.in-Constant.constant)) c.args.left c.args.made.now c.args.made.now _
    (ap (λ (t : Template). filled u.paths.now d (form_place d) u.mark c.args.rows.now (the_template t)) c.in-Constant.is ∙ ap (filled u.paths.now d (form_place d) u.mark c.args.rows.now) (template-Constant c.in-Constant.constant)) refl c.in_err-left-in-Constant.ensures)

pub fill-returns-in_err-datum-in-Constant : goal.fill-returns-in_err-datum-in-Constant
fill-returns-in_err-datum-in-Constant t c = let p = err_from_is_err_and c.from_residual-in_err-datum-in-Constant.result c.from_residual-in_err-datum-in-Constant.ensures.1 in rw (p.1, p.2) tt

pub fill-returns-in_err-push-in-Constant : goal.fill-returns-in_err-push-in-Constant
fill-returns-in_err-push-in-Constant t c = let p = err_from_is_err_and c.from_residual-in_err-push-in-Constant.result c.from_residual-in_err-push-in-Constant.ensures.1 in rw (p.1, p.2) tt

pub fill-returns-in-Given : goal.fill-returns-in-Given
fill-returns-in-Given t c = rw (c.in-Given.is, template-Given) c.fill_given.ensures

pub fill-returns-in_ok-push-in-Fresh : goal.fill-returns-in_ok-push-in-Fresh
fill-returns-in_ok-push-in-Fresh t c =
    let x = c.in_ok-copy-in-Fresh.field-0 in
    let d = c.args.self.now.call.now in
    rw (c.in-Fresh.is, template-Fresh) (one_made (symbol (form_place (form d)) c.in-Fresh.name c.args.self.now.mark) c.args.left c.in_ok-left-in-Fresh.left c.args.made.now c.push.new.self _ c.in_ok-push-in-Fresh.ensures.ok
    (form-Sym c.place.result x c.args.self.now.mark ∙ ap (λ at. symbol at x c.args.self.now.mark) (c.place.ensures ∙ same_place d) ∙ ap (λ x. symbol (form_place (form d)) x c.args.self.now.mark) c.in_ok-copy-in-Fresh.ensures) refl c.in_ok-left-in-Fresh.ensures)

pub fill-returns-in_ok-push-in-Constant : goal.fill-returns-in_ok-push-in-Constant
fill-returns-in_ok-push-in-Constant t c =
    let a = atom_of c.in-Constant.constant in
    let d = c.args.self.now.call.now in
    rw (c.in-Constant.is, template-Constant) (one_made (atom (form_place (form d)) a) c.args.left c.in_ok-left-in-Constant.left c.args.made.now c.push-in-Constant.new.self _ c.in_ok-push-in-Constant.ensures.ok
    (c.in_ok-datum-in-Constant.ensures ∙ ap (λ at. atom at a) (c.place-in-Constant.ensures ∙ same_place d)) refl c.in_ok-left-in-Constant.ensures)

pub fill-returns-in-Compound : goal.fill-returns-in-Compound
fill-returns-in-Compound t c =
    let d = form c.args.self.now.call.now in
    rw (c.in-Compound.is, template-Compound)
    (subst (λ (ts : List Template). Made (listed (form_place d) (forms (all_filled c.args.self.now.paths.now d (form_place d) c.args.self.now.mark c.args.rows.now (templates (map the_template ts)))) ∷ []) c.args.left c.args.made.now c.fill_list.new.made c.fill_list.result)
    c.as_slice.ensures c.fill_list.ensures)

pub fill-returns-in-Repeated : goal.fill-returns-in-Repeated
fill-returns-in-Repeated t c =
    let d = form c.args.self.now.call.now in
    let u = c.args.self.now in
    rw (c.in-Repeated.is, template-Repeated)
    (subst (λ n. Made (in_rows n (λ r. filled u.paths.now d (form_place d) u.mark (c.args.rows.now ++ r ∷ []) (the_template c.in-Repeated.t))) c.args.left c.args.made.now c.fill_rows.new.made c.fill_rows.result)
    (c.times-times.ensures ∙ ap (times u.paths.now d c.args.rows.now) c.as_slice-in-Repeated.ensures)
    (subst (λ (t : Template). Made (in_rows c.times-times.result (λ r. filled u.paths.now d (form_place d) u.mark (c.args.rows.now ++ r ∷ []) (the_template t))) c.args.left c.args.made.now c.fill_rows.new.made c.fill_rows.result)
    c.get.ensures c.fill_rows.ensures))
