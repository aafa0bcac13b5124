use Rattle.std.proofs.Common.{true, ap, ◌∙◌}
use Rattle.core_forms.specs.Names.{binders_of}
use Rattle.core_forms.specs.Code.{data_of}
use Rattle.core_forms.proofs.Rows.{made-as, lambda-is}
use Rattle.core_forms.proofs.core_rows.lambda.Goals as goal

pub returns : goal.returns
returns c = λ n. made-as _ _ c.function_node.result n (lambda-is n c.args.at (data_of c.args.forms) c.in-Some.field-0.list c.in-Some.field-0.body c.in_ok-binders.binders c.in-Some.ensures
    (c.in_ok-binders.ensures ∙ ap (λ list. binders_of true (data_of list)) c.as_slice.ensures)) (c.function_node.ensures n)
