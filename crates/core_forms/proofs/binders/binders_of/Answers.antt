use Rattle.std.proofs.Common.{◌+◌, ◌∷◌, drop, not, ap, sym, ◌∙◌, arith}
use Rattle.std.proofs.lemmas.List.{drop_more, drop_all}
use Rattle.std.proofs.lemmas.Result.{err_from_is_err_and}
use Rattle.core_forms.specs.Code.{may_have_types}
use Rattle.core_forms.proofs.Distinct.{stop, twice, there, kept, glued_all}
use Rattle.core_forms.proofs.binders.binders_of.Goals as goal

pub returns-in_default : goal.returns-in_default
returns-in_default c = stop (may_have_types c.args.types) c.args.items.now c.loop-datum.datum-index c.datum-item.result c.loop-datum.binders c.loop-datum.invariant.1
    (drop_more c.args.items.now c.loop-datum.datum-index c.datum-item.result c.loop-datum-test.true ∙ ap (λ d. d ∷ drop (c.loop-datum.datum-index + 1) c.args.items.now) (sym c.datum-item.is))
    (sym c.in_default.is ∙ c.in_ok-binder.ensures)

pub returns-then-not-branch : goal.returns-then-not-branch
returns-then-not-branch c = twice (may_have_types c.args.types) c.args.items.now c.loop-datum.datum-index c.datum-item.result c.loop-datum.binders c.in-Some.binder c.loop-datum.invariant.1
    (drop_more c.args.items.now c.loop-datum.datum-index c.datum-item.result c.loop-datum-test.true ∙ ap (λ d. d ∷ drop (c.loop-datum.datum-index + 1) c.args.items.now) (sym c.datum-item.is))
    (sym c.in-Some.is ∙ c.in_ok-binder.ensures)
    (there c.loop-datum.binders c.loop-datum.seen c.as_bytes.result.now c.in-Some.binder.name c.in-Some.binder.mark c.in_ok-insert.field-0 c.loop-datum.invariant.0 c.as_bytes.ensures c.in_ok-insert.ensures.added (ap not c.if-not-branch.true))

pub loop-datum-preserved : goal.loop-datum-preserved
loop-datum-preserved c = kept (may_have_types c.args.types) c.args.items.now c.loop-datum.datum-index c.datum-item.result c.loop-datum.binders c.push.new.self c.in-Some.binder c.loop-datum.seen c.insert.new.self c.as_bytes.result.now c.in_ok-insert.field-0
    c.loop-datum.invariant.0 c.loop-datum.invariant.1 c.loop-datum.invariant.2 (c.in_ok-push.ensures {u = tt}).ok c.in_ok-insert.ensures.ok c.in_ok-insert.ensures.added (ap not c.if-not-branch.false) c.as_bytes.ensures
    (drop_more c.args.items.now c.loop-datum.datum-index c.datum-item.result c.loop-datum-test.true ∙ ap (λ d. d ∷ drop (c.loop-datum.datum-index + 1) c.args.items.now) (sym c.datum-item.is))
    (sym c.in-Some.is ∙ c.in_ok-binder.ensures)

pub returns-in_err-binder : goal.returns-in_err-binder
returns-in_err-binder c = let p = err_from_is_err_and c.from_residual.result c.from_residual.ensures.1 in rw p.1 tt

pub returns-in_err-insert : goal.returns-in_err-insert
returns-in_err-insert c = let p = err_from_is_err_and c.from_residual-in_err-insert.result c.from_residual-in_err-insert.ensures.1 in rw p.1 tt

pub returns-in_err-push : goal.returns-in_err-push
returns-in_err-push c = let p = err_from_is_err_and c.from_residual-in_err-push.result c.from_residual-in_err-push.ensures.1 in rw p.1 tt

pub returns : goal.returns
returns c = glued_all (may_have_types c.args.types) c.args.items.now (drop c.loop-datum.datum-index c.args.items.now) c.loop-datum.binders c.loop-datum.invariant.1 c.loop-datum.invariant.2 (drop_all c.loop-datum.datum-index c.args.items.now (omega arith))
