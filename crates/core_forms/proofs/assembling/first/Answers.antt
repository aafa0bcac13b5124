use Rattle.std.proofs.lemmas.Result.{err_from_is_err_and}
use Rattle.core_forms.proofs.assembling.first.Goals as goal

pub returns-in_err-new : goal.returns-in_err-new
returns-in_err-new c = let p = err_from_is_err_and c.from_residual.result c.from_residual.ensures.1 in rw (p.1, p.2) tt
