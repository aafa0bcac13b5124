use Rattle.std.proofs.lemmas.Result.{err_from_is_err_and}
use Rattle.scheme_data.proofs.DistinctNames.{there, absent, inserted}
use Rattle.resolver.proofs.Tables.{listed_start, listed_form, listed_twice, listed_more, listed_all}
use Rattle.resolver.proofs.tops.function_names.Goals as goal

pub returns-then-not-branch : goal.returns-then-not-branch
returns-then-not-branch c =
    listed_twice c.args.tops.now c.loop-top.names c.loop-top.top-index c.top-item.result c.in-Define.d c.loop-top-test.true c.top-item.is c.loop-top.invariant c.in-Define.is
    (there _ c.loop-top.names _ c.in_ok-add_name.ensures.added c.if-not-branch.true)

pub loop-top-preserved : goal.loop-top-preserved
loop-top-preserved c =
    listed_more c.args.tops.now c.loop-top.names c.add_name.new.names c.loop-top.top-index c.top-item.result c.in-Define.d c.loop-top-test.true c.top-item.is c.loop-top.invariant c.in-Define.is
    (absent _ c.loop-top.names _ c.in_ok-add_name.ensures.added c.if-not-branch.false)
    (inserted _ c.loop-top.names _ _ c.in_ok-add_name.ensures.ok c.if-not-branch.false)

pub loop-top-init : goal.loop-top-init
loop-top-init c = listed_start c.args.tops.now c.new-names.result c.new-names.ensures

pub loop-top-preserved-in_default : goal.loop-top-preserved-in_default
loop-top-preserved-in_default c =
    listed_form c.args.tops.now c.loop-top.names c.loop-top.top-index c.top-item.result c.in_default.field-0 c.loop-top-test.true c.top-item.is c.loop-top.invariant c.in_default.is

pub returns : goal.returns
returns c = listed_all c.args.tops.now c.loop-top.names c.loop-top.top-index c.loop-top-test.false c.loop-top.invariant

pub returns-in_err-add_name : goal.returns-in_err-add_name
returns-in_err-add_name c =
    let p = err_from_is_err_and c.from_residual.result c.from_residual.ensures.1 in
    rw (p.1) tt
