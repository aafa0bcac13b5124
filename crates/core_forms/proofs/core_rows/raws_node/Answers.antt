use Rattle.std.proofs.lemmas.Result.{err_from_is_err_and}
use Rattle.core_forms.proofs.core_rows.raws_node.Goals as goal

pub returns-in_err-raws : goal.returns-in_err-raws
returns-in_err-raws c = let p = err_from_is_err_and c.from_residual.result c.from_residual.ensures.1 in rw p.1 tt
