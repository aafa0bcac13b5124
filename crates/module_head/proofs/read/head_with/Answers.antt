use Rattle.std.proofs.lemmas.Result.{err_from_is_err_and}
use Rattle.module_head.proofs.Breaches.{read_well, read_not}
use Rattle.module_head.proofs.read.head_with.Goals as goal

pub returns-in_err-add_clauses : goal.returns-in_err-add_clauses
returns-in_err-add_clauses c =
    let p = err_from_is_err_and c.from_residual-in_err-add_clauses.result c.from_residual-in_err-add_clauses.ensures.1 in
    rw (p.1, p.2) (read_not c.args.name.now _ c.new-reading.result _ _ _ c.in_ok-copy.ensures c.new-reading.ensures c.in_err-add_clauses.ensures)

pub returns : goal.returns
returns c = read_well c.args.name.now _ c.new-reading.result c.add_clauses.new.self _ c.in_ok-copy.ensures c.new-reading.ensures c.in_ok-add_clauses.ensures
