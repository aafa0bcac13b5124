use Rattle.std.proofs.Common.{Some, ◌+◌, ◌∷◌, drop, ◌∙◌, sym, ap}
use Rattle.std.proofs.lemmas.List.{drop_more}
use Rattle.scheme_data.specs.Forms.{form}
use Rattle.core_forms.specs.Code.{left_in}
use Rattle.core_forms.proofs.Measures.{none-left-of, not-zero, all-stop, none-in, dotted-left, list-left, vector-left}
use Rattle.core_forms.proofs.measure.+left.Goals as goal

pub left_after-returns-then-most-eq0 : goal.left_after-returns-then-most-eq0
left_after-returns-then-most-eq0 t c = none-left-of c.args.most (form c.args.datum.now) c.if-most-eq0.true

pub left_after-returns-in_err-left-in-Dotted : goal.left_after-returns-in_err-left-in-Dotted
left_after-returns-in_err-left-in-Dotted t c = c.from_residual.ensures ∙ (sym (none-in (form c.in-Dotted.tail)) ∙ dotted-left c.args.most c.args.datum.now _ _ _ _ _ (not-zero c.args.most c.if-most-eq0.false) c.in-Dotted.is c.as_slice-in-Dotted.ensures c.in_err-left-in-Dotted.ensures)

pub left_after-returns-in_ok-left-in-Dotted : goal.left_after-returns-in_ok-left-in-Dotted
left_after-returns-in_ok-left-in-Dotted t c = c.left_after.ensures ∙ (ap (λ d. left_in (Some c.in_ok-left-in-Dotted.left) (form d)) c.get.ensures ∙ dotted-left c.args.most c.args.datum.now _ _ _ _ _ (not-zero c.args.most c.if-most-eq0.false) c.in-Dotted.is c.as_slice-in-Dotted.ensures c.in_ok-left-in-Dotted.ensures)

pub left_after_all-returns-in_err-left : goal.left_after_all-returns-in_err-left
left_after_all-returns-in_err-left t c = c.from_residual.ensures ∙ all-stop c.args.most c.loop-item.left c.loop-item.item-index c.args.items.now c.item-item.result c.loop-item.invariant (drop_more c.args.items.now c.loop-item.item-index c.item-item.result c.loop-item-test.true ∙ ap (λ d. d ∷ drop (c.loop-item.item-index + 1) c.args.items.now) (sym c.item-item.is)) c.in_err-left.ensures

pub left_after-returns-in-List : goal.left_after-returns-in-List
left_after-returns-in-List t c = list-left c.args.most c.args.datum.now c.in-List.field-0 c.in-List.items _ c.left_after_all.result (not-zero c.args.most c.if-most-eq0.false) c.in-List.is c.as_slice.ensures c.left_after_all.ensures

pub left_after-returns-in-Vector : goal.left_after-returns-in-Vector
left_after-returns-in-Vector t c = vector-left c.args.most c.args.datum.now c.in-Vector.field-0 c.in-Vector.items _ c.left_after_all-in-Vector.result (not-zero c.args.most c.if-most-eq0.false) c.in-Vector.is c.as_slice-in-Vector.ensures c.left_after_all-in-Vector.ensures
