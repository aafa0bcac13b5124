use Rattle.std.proofs.Common.{true, subst}
use Rattle.core_forms.specs.Code.{data_of}
use Rattle.core_forms.specs.Shapes.{PartsAs}
use Rattle.core_forms.proofs.Rows.{made-as, let-is}
use Rattle.core_forms.proofs.core_rows.binding.Goals as goal

pub returns : goal.returns
returns c = λ n. made-as _ _ c.let_node.result n (let-is n c.args.at (data_of c.args.forms) c.in-Some.field-0.list c.in-Some.field-0.body c.in-Some-2.field-0.binders c.in-Some-2.field-0.values
    c.in-Some.ensures (subst (PartsAs true (data_of c.in-Some.field-0.list)) c.in-Some-2.is c.in_ok-binders.ensures)) (c.let_node.ensures n)
