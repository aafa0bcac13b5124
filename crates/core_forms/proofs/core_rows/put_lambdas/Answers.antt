use Rattle.std.proofs.Common.{◌∙◌, refl, sym, ap, List}
use Rattle.std.proofs.lemmas.Result.{err_from_is_err_and}
use Rattle.core_forms.proofs.Rows.{lambdas-more}
use Rattle.scheme_data.specs.declared.datum.Datum.{Datum}
use Rattle.core_forms.specs.Code.{data_of}
use Rattle.core_forms.specs.Table.{lambdas}
use Rattle.core_forms.specs.Working.{parts_then}
use Rattle.core_forms.proofs.core_rows.put_lambdas.Goals as goal

pub loop-value-preserved : goal.loop-value-preserved
loop-value-preserved c = λ xs qs. lambdas-more c.args.at xs c.loop-value.values c.pop.new.self c.in-Some.value _ c.loop-value.parts c.push.new.self qs c.in-Some.ensures (c.in_ok-push.ensures {u = tt}).ok refl ∙ c.loop-value.invariant xs qs

pub loop-value-init : goal.loop-value-init
loop-value-init c = λ xs qs. refl

pub returns-in_err-push : goal.returns-in_err-push
returns-in_err-push c = λ xs qs. let p = err_from_is_err_and c.from_residual.result c.from_residual.ensures.1 in rw p.1 tt

pub returns : goal.returns
returns c = λ xs qs. sym (ap (λ (ds : List Datum). lambdas c.args.at xs (data_of ds) (parts_then xs c.loop-value.parts qs)) c.in_default.ensures.0) ∙ c.loop-value.invariant xs qs
