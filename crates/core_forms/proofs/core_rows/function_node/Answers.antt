use Rattle.std.proofs.Common.{ap}
use Rattle.core_forms.specs.Code.{data_of}
use Rattle.core_forms.specs.Table.{function_turn}
use Rattle.core_forms.proofs.Rows.{made-as}
use Rattle.core_forms.proofs.core_rows.function_node.Goals as goal

pub returns-in-Some : goal.returns-in-Some
returns-in-Some c = λ n. made-as _ _ c.body_node.result n (ap (λ bs. function_turn n c.args.at bs (data_of c.args.body)) c.in-Some.is) (c.body_node.ensures n)

pub returns-in-None : goal.returns-in-None
returns-in-None c = λ n. ap (λ bs. function_turn n c.args.at bs (data_of c.args.body)) c.in-None.is
