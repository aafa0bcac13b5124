use Rattle.std.proofs.Common.{Some, ap, sym, ◌∙◌, arith}
use Rattle.std.proofs.lemmas.Result.{err_from_is_err_and}
use Rattle.resolver.proofs.Calls.{not_three, branch_is}
use Rattle.resolver.proofs.scope.branch.Goals as goal

pub returns-then-len-ne3 : goal.returns-then-len-ne3
returns-then-len-ne3 c = not_three c.args.parts (λ e. omega arith)

pub returns : goal.returns
returns c =
    branch_is c.args.parts c.remove.new.self c.remove-2.new.self _ _ _ (omega arith)
    (c.remove.ensures.item ∙ ap Some (sym c.in_ok-test.ensures)) c.remove.ensures.rest
    (c.remove-2.ensures.item ∙ ap Some (sym c.in_ok-first.ensures)) c.remove-2.ensures.rest
    (c.remove-3.ensures.item ∙ ap Some (sym c.in_ok-second.ensures))

pub returns-in_err-test : goal.returns-in_err-test
returns-in_err-test c =
    let p = err_from_is_err_and c.from_residual.result c.from_residual.ensures.1 in
    rw (p.1) tt

pub returns-in_err-first : goal.returns-in_err-first
returns-in_err-first c =
    let p = err_from_is_err_and c.from_residual-in_err-first.result c.from_residual-in_err-first.ensures.1 in
    rw (p.1) tt

pub returns-in_err-second : goal.returns-in_err-second
returns-in_err-second c =
    let p = err_from_is_err_and c.from_residual-in_err-second.result c.from_residual-in_err-second.ensures.1 in
    rw (p.1) tt
