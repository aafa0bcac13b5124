use Rattle.std.proofs.lemmas.Result.{err_from_is_err_and}
use Rattle.code_gen.proofs.Places.{next_word}
use Rattle.code_gen.proofs.context.Params.variables.Goals as goal

pub loop-i-preserved : goal.loop-i-preserved
loop-i-preserved c =
    next_word c.args.self.now c.self.inside.params.now c.loop-i.i c.self.inside.count c.loop-i.vars c.push.new.self c.in_ok-local_name_text.field-0 c.self.view_is c.self.invariant.0 c.loop-i-test.true
    c.loop-i.invariant c.in_ok-local_name_text.ensures (c.in_ok-push.ensures {u = tt}).ok

pub returns-in_err-local_name_text : goal.returns-in_err-local_name_text
returns-in_err-local_name_text c =
    let p = err_from_is_err_and c.from_residual.result c.from_residual.ensures.1 in
    rw (p.1) tt

pub returns-in_err-push : goal.returns-in_err-push
returns-in_err-push c =
    let p = err_from_is_err_and c.from_residual-in_err-push.result c.from_residual-in_err-push.ensures.1 in
    rw (p.1) tt
