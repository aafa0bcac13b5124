use Rattle.std.proofs.Common.{sym, ◌∙◌, ap}
use Rattle.std.proofs.lemmas.Result.{IfOk-weaker}
use Rattle.code_gen.specs.Emission.{step_of}
use Rattle.code_gen.proofs.Fitting.{fit_kept, fit_made, fit_refused}
use Rattle.code_gen.proofs.coercions.fit.Goals as goal

pub returns-in-Keep : goal.returns-in-Keep
returns-in-Keep c = fit_kept c.args.e.now c.args.ty c.args.held c.requires.below (sym (ap step_of c.in-Keep.is) ∙ c.coercion_to.ensures)

pub returns-in_ok-made-in-Make : goal.returns-in_ok-made-in-Make
returns-in_ok-made-in-Make c = fit_made c.args.e.now c.store.new.self c.args.ty c.args.held c.in-Make.op c.rep.result c.in_ok-made-in-Make.made c.in_ok-value-in-Make.value
    (sym (ap step_of c.in-Make.is) ∙ c.coercion_to.ensures) c.rep.ensures c.in_ok-value-in-Make.ensures c.in_ok-made-in-Make.ensures

pub returns-in-Refuse : goal.returns-in-Refuse
returns-in-Refuse c = IfOk-weaker c.refused.result _ _
    (λ made refused. fit_refused c.args.e.now c.refused.new.e c.args.ty c.args.held made (sym (ap step_of c.in-Refuse.is) ∙ c.coercion_to.ensures) refused)
    c.refused.ensures
