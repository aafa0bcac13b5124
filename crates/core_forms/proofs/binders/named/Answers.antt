use Rattle.std.proofs.Common.{ap}
use Rattle.core_forms.specs.Names.{binder_with}
use Rattle.std.proofs.lemmas.Result.{err_from_is_err_and}
use Rattle.core_forms.proofs.binders.named.Goals as goal

pub returns-in_default : goal.returns-in_default
returns-in_default c = ap (binder_with c.args.at c.args.mark) c.in_default.ensures

pub returns-in_err-name : goal.returns-in_err-name
returns-in_err-name c = let p = err_from_is_err_and c.from_residual.result c.from_residual.ensures.1 in rw p.1 tt

pub returns-in_err-from_bytes-in-Some-ty : goal.returns-in_err-from_bytes-in-Some-ty
returns-in_err-from_bytes-in-Some-ty c = let p = err_from_is_err_and c.from_residual-in_err-from_bytes-in-Some-ty.result c.from_residual-in_err-from_bytes-in-Some-ty.ensures.1 in rw p.1 tt
