use Rattle.std.proofs.Common.{ap}
use Rattle.std.proofs.lemmas.Result.{err_from_is_err_and}
use Rattle.expansion_steps.specs.Heads.{macros_of}
use Rattle.expander.specs.Answers.{module_of}
use Rattle.expander.specs.Tops.{all_tops}
use Rattle.expander.proofs.TopExact.{answered, scan_answer}
use Rattle.expander.proofs.module.answer.Goals as goal

pub returns-in_err-found : goal.returns-in_err-found
returns-in_err-found c =
    let p = err_from_is_err_and c.from_residual.result c.from_residual.ensures.1 in
    rw (p.1, p.2) (scan_answer (module_of c.args.forms.now) c.in_err-found.field-0.0 (c.in_err-found.ensures {u = tt}))

pub returns : goal.returns
returns c =
    answered (module_of c.args.forms.now) (macros_of c.in_ok-found.found.macros) (macros_of c.new-expander.result.macros) c.new-expander.result.counts (all_tops c.in_ok-found.found.tops) (all_tops c.from_first.result) c.tops.result
    (c.in_ok-found.ensures {u = tt}) (ap macros_of c.new-expander.ensures.macros) c.new-expander.ensures.counts (ap all_tops c.from_first.ensures) c.tops.ensures
