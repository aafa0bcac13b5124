use Rattle.std.proofs.Common.{◌+◌, ap, subst, ◌∙◌, arith}
use Rattle.std.proofs.lemmas.Result.{err_from_is_err_and}
use Rattle.resolver.specs.Trees.{head_tree}
use Rattle.resolver.specs.Parts.{top_of, Builds}
use Rattle.resolver.proofs.DefinedForms.{not_built, built_more, all_built}
use Rattle.resolver.proofs.functions.Functions.all.Goals as goal

pub returns-in_default : goal.returns-in_default
returns-in_default c =
    not_built (head_tree c.args.self.now.head.now) c.args.self.now.names.now c.args.self.now.outside.now c.args.tops.now c.loop-top.built c.loop-top.first c.loop-top.top-index c.top-item.result
    c.loop-top-test.true c.top-item.is c.loop-top.invariant
    (subst (Builds c.args.self.now.names.now c.args.self.now.outside.now c.args.self.now.head.now.main c.loop-top.first (top_of c.top-item.result)) c.in_default.is c.in_ok-item.ensures)

pub loop-top-preserved : goal.loop-top-preserved
loop-top-preserved c =
    built_more c.args.self.now.names.now c.args.self.now.outside.now c.args.self.now.head.now.main c.args.tops.now c.loop-top.built c.push.new.self c.loop-top.first c.in_ok-end.end c.loop-top.top-index
    c.top-item.result c.in-Some.item c.loop-top-test.true c.top-item.is c.loop-top.invariant
    (subst (Builds c.args.self.now.names.now c.args.self.now.outside.now c.args.self.now.head.now.main c.loop-top.first (top_of c.top-item.result)) c.in-Some.is c.in_ok-item.ensures)
    (c.in_ok-end.ensures ∙ ap (λ n. c.loop-top.first + n) c.param_count.ensures) c.in_ok-push.ensures.ok

pub returns : goal.returns
returns c =
    all_built (head_tree c.args.self.now.head.now) c.args.self.now.names.now c.args.self.now.outside.now c.args.tops.now c.loop-top.built c.loop-top.first c.loop-top.top-index
    (omega arith) c.loop-top.invariant

pub returns-in_err-end : goal.returns-in_err-end
returns-in_err-end c =
    let p = err_from_is_err_and c.from_residual.result c.from_residual.ensures.1 in
    rw (p.1) tt

pub returns-in_err-item : goal.returns-in_err-item
returns-in_err-item c =
    let p = err_from_is_err_and c.from_residual-in_err-item.result c.from_residual-in_err-item.ensures.1 in
    rw (p.1) tt

pub returns-in_err-push : goal.returns-in_err-push
returns-in_err-push c =
    let p = err_from_is_err_and c.from_residual-in_err-push.result c.from_residual-in_err-push.ensures.1 in
    rw (p.1) tt
