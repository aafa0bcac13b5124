use Rattle.std.proofs.lemmas.Result.{err_from_is_err_and}
use Rattle.core_forms.proofs.core_rows.body_node.Goals as goal

pub returns-in_err-one_part : goal.returns-in_err-one_part
returns-in_err-one_part c = λ n. let p = err_from_is_err_and c.from_residual.result c.from_residual.ensures.1 in rw (p.1, p.2) tt
