use Rattle.std.proofs.lemmas.Result.{err_from_is_err_and}
use Rattle.scheme_data.specs.Forms.{form}
use Rattle.expansion_steps.specs.Heads.{macros_of}
use Rattle.expander.specs.Tops.{all_tops}
use Rattle.expander.proofs.TopForms.{syntax_taken, syntax_refused}
use Rattle.expander.proofs.module.add_macro.Goals as goal

pub returns-in_err-top : goal.returns-in_err-top
returns-in_err-top c =
    let p = err_from_is_err_and c.from_residual.result c.from_residual.ensures.1 in
    rw (p.1, p.2) (λ n. syntax_refused (form c.args.datum.now) (macros_of c.args.macros.now) (macros_of c.syntax.new.macros) n c.in_err-top.field-0.0 (all_tops c.args.tops.now) (all_tops c.args.tops.now) (c.in_err-top.ensures {u = tt}))

pub returns : goal.returns
returns c n =
    syntax_taken (form c.args.datum.now) (macros_of c.args.macros.now) (macros_of c.syntax.new.macros) n c.in_ok-top.top c.args.tops.now c.push.new.self (c.in_ok-top.ensures {u = tt}) (c.in_ok-push.ensures {u = tt}).ok
