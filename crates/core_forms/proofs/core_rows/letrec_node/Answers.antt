use Rattle.core_forms.specs.Mid.{none}
use Rattle.core_forms.proofs.Rows.{is-letrec}
use Rattle.core_forms.proofs.core_rows.letrec_node.Goals as goal

pub returns : goal.returns
returns c = λ n. is-letrec c.args.at c.args.binders c.args.values c.args.body n c.nesting_of-nesting.result c.new.result c.in_ok-inner.inner c.put_lambdas.new.parts c.nesting_of-nesting.ensures c.new.ensures (c.in_ok-put_lambdas.ensures c.args.binders none) c.in_ok-inner.ensures
