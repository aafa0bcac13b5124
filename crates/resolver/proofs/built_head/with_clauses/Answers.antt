use Rattle.std.proofs.Common.{refl}
use Rattle.std.proofs.lemmas.Result.{err_from_is_err_and}
use Rattle.resolver.proofs.Adding.{none_added, clause_wrong, clause_added, all_added}
use Rattle.resolver.proofs.built_head.with_clauses.Goals as goal

pub loop-d-init : goal.loop-d-init
loop-d-init c = none_added c.args.name.now c.args.ds.now _ c.in_ok-copy.ensures c.new.ensures c.new-2.ensures refl

pub returns-in_err-copy : goal.returns-in_err-copy
returns-in_err-copy c =
    let p = err_from_is_err_and c.from_residual.result c.from_residual.ensures.1 in
    rw (p.1) tt

pub returns-in_err-add_clause : goal.returns-in_err-add_clause
returns-in_err-add_clause c =
    let p = err_from_is_err_and c.from_residual-in_err-add_clause.result c.from_residual-in_err-add_clause.ensures.1 in
    rw (p.1) tt

pub returns-then-not-branch : goal.returns-then-not-branch
returns-then-not-branch c =
    clause_wrong c.args.name.now c.args.ds.now c.loop-d.head c.add_clause.new.self c.loop-d.d-index c.d-item.result _ c.loop-d-test.true c.d-item.is c.loop-d.invariant
    c.in_ok-add_clause.ensures c.if-not-branch.true

pub loop-d-preserved : goal.loop-d-preserved
loop-d-preserved c =
    clause_added c.args.name.now c.args.ds.now c.loop-d.head c.add_clause.new.self c.loop-d.d-index c.d-item.result _ c.loop-d-test.true c.d-item.is c.loop-d.invariant
    c.in_ok-add_clause.ensures c.if-not-branch.false

pub returns : goal.returns
returns c = all_added c.args.name.now c.args.ds.now c.loop-d.head c.loop-d.d-index c.loop-d-test.false c.loop-d.invariant
