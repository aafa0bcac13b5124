use Rattle.std.proofs.Common.{◌∙◌, ap, Err}
use Rattle.std.proofs.lemmas.Result.{err_from_is_err_and}
use Rattle.session.proofs.Folding.{one_done, one_halted}
use Rattle.session.proofs.script.do_one.Goals as goal

pub returns-in_err-do_line-clause-told : goal.returns-in_err-do_line-clause-told
returns-in_err-do_line-clause-told g c =
    let p = err_from_is_err_and c.from_residual.result c.from_residual.ensures.1 in
    one_halted c.args.command.now _ _ c.new-ends.result _ _ c.do_line.new.ends _ _ c.new-ends.ensures (p.1 ∙ ap (λ h. Err h) p.2) c.in_err-do_line.ensures.told

pub returns-clause-told : goal.returns-clause-told
returns-clause-told g c = one_done c.args.command.now _ _ c.new-ends.result _ _ c.do_line.new.ends c.new-ends.ensures c.in_ok-do_line.ensures.told
