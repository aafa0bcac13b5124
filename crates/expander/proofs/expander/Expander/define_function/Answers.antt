use Rattle.std.proofs.Common.{ap}
use Rattle.std.proofs.lemmas.Result.{err_from_is_err_and}
use Rattle.core_forms.specs.Mid.{tree}
use Rattle.core_forms.specs.Modules.{usual, top_name, Defines}
use Rattle.core_forms.specs.declared.core_form.CoreTop.TheVariants as code
use Rattle.expansion_steps.specs.Heads.{macros_of}
use Rattle.expander.proofs.TopSteps.{value_walked, value_refused}
use Rattle.expander.proofs.expander.Expander.define_function.Goals as goal

pub returns-in_err-expr-clause-walked : goal.returns-in_err-expr-clause-walked
returns-in_err-expr-clause-walked c =
    let p = err_from_is_err_and c.from_residual.result c.from_residual.ensures.1 in
    rw (p.1, p.2) (value_refused (macros_of c.args.self.now.macros) usual (top_name c.args.at c.args.binder) 0 c.args.self.now.counts _ c.in_err-expr.field-0.0 c.function.new.self.counts (c.in_err-expr.ensures {u = tt}).walked)

pub returns-clause-walked : goal.returns-clause-walked
returns-clause-walked c =
    value_walked (macros_of c.args.self.now.macros) usual (top_name c.args.at c.args.binder) 0 c.args.self.now.counts _ c.in_ok-expr.expr (code.Define c.top_name.result c.in_ok-expr.expr) c.function.new.self.counts
    (ap (λ x. Defines usual x (tree c.in_ok-expr.expr)) c.top_name.ensures) (c.in_ok-expr.ensures {u = tt}).walked
