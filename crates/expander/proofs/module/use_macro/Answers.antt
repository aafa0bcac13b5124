use Rattle.std.proofs.lemmas.Result.{err_from_is_err_and}
use Rattle.scheme_data.specs.Forms.{form}
use Rattle.syntax_rules.specs.Views.{the_macro}
use Rattle.core_forms.specs.Bodies.{used}
use Rattle.expander.specs.Tops.{all_tops}
use Rattle.expander.proofs.TopForms.{used_taken, used_refused}
use Rattle.expander.proofs.module.use_macro.Goals as goal

pub returns-in_err-result : goal.returns-in_err-result
returns-in_err-result c =
    let p = err_from_is_err_and c.from_residual.result c.from_residual.ensures.1 in
    rw (p.1, p.2) (λ ks. used_refused ks ks (used (the_macro c.args.rules.now) c.args.counts.now (form c.args.datum.now)) c.args.counts.now c.expand_use.new.counts c.expand_use.new.counts c.in_err-result.field-0.0
    (all_tops c.args.tops.now) (all_tops c.args.tops.now) (c.in_err-result.ensures {u = tt}))

pub returns : goal.returns
returns c ks =
    used_taken ks (used (the_macro c.args.rules.now) c.args.counts.now (form c.args.datum.now)) c.expand_use.new.counts c.in_ok-result.result c.args.tops.now c.push.new.self (c.in_ok-result.ensures {u = tt}) (c.in_ok-push.ensures {u = tt}).ok
