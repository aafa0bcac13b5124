use Rattle.std.proofs.Common.{sym, ap, ◌∙◌}
use Rattle.std.proofs.lemmas.Result.{err_from_is_err_and}
use Rattle.std.specs.Option.{option_map}
use Rattle.resolver.specs.Parts.{top_of}
use Rattle.resolver.proofs.DefinedForms.{top_added}
use Rattle.resolver.proofs.tops.top_forms.Goals as goal

pub loop-d-preserved : goal.loop-d-preserved
loop-d-preserved c =
    top_added c.args.ds.now c.loop-d.tops c.push.new.self c.loop-d.d-index _ c.in-Some.top c.loop-d-test.true c.d-item.is c.loop-d.invariant
    (sym (ap (option_map top_of) c.in-Some.is) ∙ c.in_ok-top.ensures) c.in_ok-push.ensures.ok

pub returns-in_err-top : goal.returns-in_err-top
returns-in_err-top c =
    let p = err_from_is_err_and c.from_residual.result c.from_residual.ensures.1 in
    rw (p.1) tt

pub returns-in_err-push : goal.returns-in_err-push
returns-in_err-push c =
    let p = err_from_is_err_and c.from_residual-in_err-push.result c.from_residual-in_err-push.ensures.1 in
    rw (p.1) tt
