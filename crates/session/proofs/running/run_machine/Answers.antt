use Rattle.std.proofs.lemmas.Result.{err_from_is_err_and}
use Rattle.session.proofs.Runs.{line_cut}
use Rattle.session.proofs.running.run_machine.Goals as goal

pub returns-in_err-put_last_line-clause-told : goal.returns-in_err-put_last_line-clause-told
returns-in_err-put_last_line-clause-told g c =
    let p = err_from_is_err_and c.from_residual-in_err-put_last_line.result c.from_residual-in_err-put_last_line.ensures.1 in
    rw (p.1, p.2) (line_cut _ _ _ _ c.in_ok-end.end _ c.in_ok-end.ensures.end c.in_ok-end.ensures.told c.in_err-put_last_line.ensures.told)
