use Rattle.std.proofs.Common.{Ok, Err}
use Rattle.std.proofs.lemmas.Result.{err_from_is_err_and}
use Rattle.scheme_data.specs.Forms.{form}
use Rattle.core_forms.specs.Mid.{raw}
use Rattle.expansion_steps.specs.Heads.{macros_of}
use Rattle.expander.proofs.TopSteps.{expr_walked, expr_refused}
use Rattle.expander.proofs.TopForms.{at_top}
use Rattle.expander.proofs.expander.Expander.evaluate.Goals as goal

pub returns-in_err-expr-clause-walked : goal.returns-in_err-expr-clause-walked
returns-in_err-expr-clause-walked c =
    let p = err_from_is_err_and c.from_residual.result c.from_residual.ensures.1 in
    rw (p.1, p.2) (expr_refused (macros_of c.args.self.now.macros) c.args.self.now.counts _ c.in_err-expr.field-0.0 c.walk.new.self.counts (at_top (macros_of c.args.self.now.macros) 1000 c.args.self.now.scope c.args.self.now.counts (raw (form c.args.datum)) (Err c.in_err-expr.field-0.0) c.walk.new.self.counts c.requires (c.in_err-expr.ensures {u = tt}).walked))

pub returns-clause-walked : goal.returns-clause-walked
returns-clause-walked c =
    expr_walked (macros_of c.args.self.now.macros) c.args.self.now.counts _ c.in_ok-expr.expr c.walk.new.self.counts (at_top (macros_of c.args.self.now.macros) 1000 c.args.self.now.scope c.args.self.now.counts (raw (form c.args.datum)) (Ok c.in_ok-expr.expr) c.walk.new.self.counts c.requires (c.in_ok-expr.ensures {u = tt}).walked)
