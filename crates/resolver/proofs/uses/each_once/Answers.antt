use Rattle.std.proofs.Common.{◌≡◌, sym, ap, ◌∙◌, ◌++◌, ◌∷◌, [], subst}
use Rattle.std.proofs.lemmas.Result.{err_from_is_err_and}
use Rattle.std.specs.Bool.{OnFalse}
use Rattle.resolver.proofs.UseLists.{seen_again, seen_first}
use Rattle.resolver.proofs.uses.each_once.Goals as goal

pub loop-t-preserved-then-not-branch : goal.loop-t-preserved-then-not-branch
loop-t-preserved-then-not-branch c =
    seen_again c.args.taken.now c.loop-t.t-index c.t-item.result (c.as_bytes.result, c.as_bytes-in-loop-t.result) c.loop-t.seen.keys c.insert.new.self.keys c.loop-t.uses c.loop-t-test.true c.t-item.is
    (record { module_name = c.as_bytes.ensures; name = c.as_bytes-in-loop-t.ensures }) c.loop-t.invariant
    (sym c.in_ok-insert.ensures.added ∙ c.if-not-branch.true) (subst (λ b. OnFalse b (c.insert.new.self.keys ≡ c.loop-t.seen.keys)) c.if-not-branch.true c.in_ok-insert.ensures.unchanged)

pub loop-t-preserved : goal.loop-t-preserved
loop-t-preserved c =
    seen_first c.args.taken.now c.loop-t.t-index c.t-item.result (c.as_bytes.result, c.as_bytes-in-loop-t.result) c.loop-t.seen.keys c.insert.new.self.keys c.loop-t.uses c.push.new.self c.loop-t-test.true c.t-item.is
    (record { module_name = c.as_bytes.ensures; name = c.as_bytes-in-loop-t.ensures }) c.loop-t.invariant
    (sym c.in_ok-insert.ensures.added ∙ c.if-not-branch.false) c.in_ok-insert.ensures.updates.0
    (c.in_ok-push.ensures.ok ∙ ap (λ u. c.loop-t.uses ++ u ∷ []) c.in_ok-to_use.ensures)

pub returns-in_err-insert : goal.returns-in_err-insert
returns-in_err-insert c =
    let p = err_from_is_err_and c.from_residual.result c.from_residual.ensures.1 in
    rw (p.1) tt

pub returns-in_err-to_use : goal.returns-in_err-to_use
returns-in_err-to_use c =
    let p = err_from_is_err_and c.from_residual-in_err-to_use.result c.from_residual-in_err-to_use.ensures.1 in
    rw (p.1) tt

pub returns-in_err-push : goal.returns-in_err-push
returns-in_err-push c =
    let p = err_from_is_err_and c.from_residual-in_err-push.result c.from_residual-in_err-push.ensures.1 in
    rw (p.1) tt
