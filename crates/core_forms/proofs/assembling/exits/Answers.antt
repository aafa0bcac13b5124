use Rattle.std.proofs.lemmas.Result.{err_from_is_err_and}
use Rattle.core_forms.proofs.Trees.{exit_parts}
use Rattle.core_forms.proofs.assembling.exits.Goals as goal

pub returns : goal.returns
returns c = exit_parts c.args.at c.args.x c.args.cs c.in_ok-b.b c.in_ok-b.ensures

pub returns-in_err-b : goal.returns-in_err-b
returns-in_err-b c = let p = err_from_is_err_and c.from_residual.result c.from_residual.ensures.1 in rw (p.1, p.2) c.in_err-b.ensures
