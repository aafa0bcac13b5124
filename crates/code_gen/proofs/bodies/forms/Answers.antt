use Rattle.std.proofs.lemmas.Result.{err_from_is_err_and}
use Rattle.code_gen.specs.Settings.{setting}
use Rattle.code_gen.proofs.Walks.{unused_none, unused_more, form_at}
use Rattle.code_gen.proofs.bodies.forms.Goals as goal

pub loop-i-init : goal.loop-i-init
loop-i-init c = unused_none (setting c.args.ctx.now) c.args.e.now

pub form-requires : goal.form-requires
form-requires c = form_at (setting c.args.ctx.now) c.args.tops.now c.loop-i.i c.index-tops-i.result c.loop-i-test.true c.index-tops-i.is c.requires

pub loop-i-preserved : goal.loop-i-preserved
loop-i-preserved c =
    unused_more (setting c.args.ctx.now) c.args.e.now c.loop-i.e c.form.new.e c.args.tops.now c.loop-i.i c.index-tops-i.result c.loop-i-test.true c.index-tops-i.is c.loop-i.invariant c.in_ok-form.ensures

pub returns-in_err-form : goal.returns-in_err-form
returns-in_err-form c =
    let p = err_from_is_err_and c.from_residual.result c.from_residual.ensures.1 in
    rw (p.1) tt
