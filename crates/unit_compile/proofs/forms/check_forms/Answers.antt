use Rattle.std.proofs.Common.{Ok, rules}
use Rattle.std.proofs.lemmas.Result.{err_from_is_err_and}
use Rattle.unit_compile.proofs.Refusals.{expansion_decides, nothing_refused}
use Rattle.unit_compile.proofs.forms.check_forms.Goals as goal

pub returns-in_err-expand_behind-clause-refused : goal.returns-in_err-expand_behind-clause-refused
returns-in_err-expand_behind-clause-refused c refusal is =
    let p = err_from_is_err_and c.from_residual-in_err-expand_behind.result c.from_residual-in_err-expand_behind.ensures.1 in
    rw (p.1, p.2) (expansion_decides (Unit {0}) c.args.forms.now c.in_ok-head_in.field-0 c.in_err-expand_behind.field-0.0 refusal (search rules) c.in_err-expand_behind.ensures.refused is)

pub returns-clause-refused : goal.returns-clause-refused
returns-clause-refused c refusal is = nothing_refused ⊥ c.args.forms.now c.in_ok-head_in.field-0 c.in_ok-expand_behind.field-0 refusal (search rules) c.in_ok-expand_behind.ensures.refused is
