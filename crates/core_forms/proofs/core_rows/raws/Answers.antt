use Rattle.std.proofs.Common.{◌∙◌, refl, ap, [], List, reverse}
use Rattle.std.proofs.lemmas.Result.{err_from_is_err_and}
use Rattle.core_forms.proofs.Rows.{raws-more}
use Rattle.core_forms.specs.Code.{data_of}
use Rattle.core_forms.specs.Table.{raws}
use Rattle.core_forms.specs.Working.{parts_then, lists_of}
use Rattle.core_forms.specs.declared.work.Part.{Part}
use Rattle.core_forms.proofs.core_rows.raws.Goals as goal

pub loop-form-preserved : goal.loop-form-preserved
loop-form-preserved c = λ qs. raws-more c.args.lists c.loop-form.forms c.pop.new.self c.in-Some.form _ c.loop-form.parts c.push.new.self qs c.in-Some.ensures (c.in_ok-push.ensures {u = tt}).ok refl ∙ c.loop-form.invariant qs

pub loop-form-init : goal.loop-form-init
loop-form-init c = λ qs. ap (λ (ps : List Part). raws (lists_of c.args.lists) (data_of (reverse c.into_stack-forms.result)) (parts_then [] ps qs)) c.new-parts.ensures

pub returns-in_err-push : goal.returns-in_err-push
returns-in_err-push c = let p = err_from_is_err_and c.from_residual.result c.from_residual.ensures.1 in rw p.1 tt
