use Rattle.std.proofs.lemmas.Result.{err_from_is_err_and}
use Rattle.core_forms.proofs.core_rows.let_parts.Goals as goal

pub returns-in_err-stacked : goal.returns-in_err-stacked
returns-in_err-stacked c = let p = err_from_is_err_and c.from_residual.result c.from_residual.ensures.1 in rw p.1 tt

pub returns-in_err-sides : goal.returns-in_err-sides
returns-in_err-sides c = let p = err_from_is_err_and c.from_residual-in_err-sides.result c.from_residual-in_err-sides.ensures.1 in rw p.1 tt

pub returns-in_err-binders : goal.returns-in_err-binders
returns-in_err-binders c = let p = err_from_is_err_and c.from_residual-in_err-binders.result c.from_residual-in_err-binders.ensures.1 in rw p.1 tt
