use Rattle.std.proofs.lemmas.Result.{err_from_is_err_and}
use Rattle.core_forms.proofs.Trees.{call_parts}
use Rattle.core_forms.proofs.assembling.application.Goals as goal

pub returns : goal.returns
returns c = call_parts c.args.at c.args.cs c.first.new.cs c.in_ok-e.e c.in_ok-e.ensures

pub returns-in_err-e : goal.returns-in_err-e
returns-in_err-e c = let p = err_from_is_err_and c.from_residual.result c.from_residual.ensures.1 in rw (p.1, p.2) c.in_err-e.ensures
