use Rattle.std.proofs.Common.{sym, ap, ◌∙◌}
use Rattle.std.proofs.lemmas.Result.{err_from_is_err_and}
use Rattle.resolver.specs.Names.{is_bound_name}
use Rattle.scheme_data.proofs.DistinctNames.{there, absent, inserted}
use Rattle.resolver.proofs.Tables.{not_bound, read_twice, read_more}
use Rattle.resolver.proofs.definitions.parameters.Goals as goal

pub returns-then-not-may_be_bound : goal.returns-then-not-may_be_bound
returns-then-not-may_be_bound c =
    not_bound c.args.ds.now c.loop-d.params c.loop-d.d-index _ _ c.loop-d-test.true c.d-item.is c.loop-d.invariant c.in-Some.ensures
    (sym (c.may_be_bound.ensures ∙ ap is_bound_name c.as_bytes.ensures) ∙ c.if-not-may_be_bound.true)

pub returns-then-not-branch : goal.returns-then-not-branch
returns-then-not-branch c =
    read_twice c.args.ds.now c.loop-d.params c.loop-d.d-index _ _ c.loop-d-test.true c.d-item.is c.loop-d.invariant c.in-Some.ensures
    (sym (c.may_be_bound.ensures ∙ ap is_bound_name c.as_bytes.ensures) ∙ c.if-not-may_be_bound.false)
    (there _ c.loop-d.params _ c.in_ok-add_name.ensures.added c.if-not-branch.true)

pub loop-d-preserved : goal.loop-d-preserved
loop-d-preserved c =
    read_more c.args.ds.now c.loop-d.params c.add_name.new.names c.loop-d.d-index _ _ c.loop-d-test.true c.d-item.is c.loop-d.invariant c.in-Some.ensures
    (sym (c.may_be_bound.ensures ∙ ap is_bound_name c.as_bytes.ensures) ∙ c.if-not-may_be_bound.false)
    (absent _ c.loop-d.params _ c.in_ok-add_name.ensures.added c.if-not-branch.false)
    (inserted _ c.loop-d.params _ _ c.in_ok-add_name.ensures.ok c.if-not-branch.false)

pub returns-in_err-add_name : goal.returns-in_err-add_name
returns-in_err-add_name c =
    let p = err_from_is_err_and c.from_residual.result c.from_residual.ensures.1 in
    rw (p.1) tt
