use Rattle.std.proofs.Common.{Some, sym, ap, ◌∙◌}
use Rattle.std.proofs.lemmas.Result.{err_from_is_err_and}
use Rattle.scheme_data.specs.Forms.{form}
use Rattle.expansion_steps.specs.Heads.{macros_of}
use Rattle.expansion_steps.specs.Parts.{definition_is}
use Rattle.expansion_steps.proofs.Decisions.{defines_function}
use Rattle.expansion_steps.proofs.Values.{value_refused}
use Rattle.expansion_steps.proofs.looking.look_at_defined.Goals as goal

pub returns-in-Procedure : goal.returns-in-Procedure
returns-in-Procedure c = λ d h p g.
    defines_function (macros_of c.args.ks.now) c.args.s.now c.args.n.now d c.args.at h (sym p) c.in-Procedure.binder c.in-Procedure.body c.args.others (g ∙ ap (λ x. Some (definition_is x)) c.in-Procedure.is) c.requires

pub returns-in_err-settled-in-Value : goal.returns-in_err-settled-in-Value
returns-in_err-settled-in-Value c =
    let q = err_from_is_err_and c.from_residual.result c.from_residual.ensures.1 in
    rw (q.1, q.2) (λ d h p g.
    value_refused (macros_of c.args.ks.now) c.args.s.now c.args.n.now c.settle.new.n d c.args.at c.in-Value.binder (form c.in-Value.word) (form c.in-Value.symbol) (form c.in-Value.value) c.args.others c.in_err-settled-in-Value.field-0.0 h p
    (g ∙ ap (λ x. Some (definition_is x)) c.in-Value.is) c.requires c.in_err-settled-in-Value.ensures)
