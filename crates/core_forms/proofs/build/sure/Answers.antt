use Rattle.std.proofs.Common.{ap, ◌∙◌}
use Rattle.std.proofs.lemmas.Result.{err_from_is_err_and}
use Rattle.core_forms.specs.Scope.{sure}
use Rattle.core_forms.proofs.Views.{form-Sym}
use Rattle.core_forms.proofs.build.sure.Goals as goal

pub returns-in_err-from_bytes : goal.returns-in_err-from_bytes
returns-in_err-from_bytes c = let p = err_from_is_err_and c.from_residual.result c.from_residual.ensures.1 in rw p.1 tt

pub returns : goal.returns
returns c = form-Sym c.args.at c.in_ok-from_bytes.field-0 _ ∙ ap (λ x. sure c.args.at x) c.in_ok-from_bytes.ensures
