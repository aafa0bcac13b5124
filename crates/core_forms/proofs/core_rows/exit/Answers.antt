use Rattle.std.proofs.Common.{refl}
use Rattle.std.proofs.lemmas.Bool.{false≢true}
use Rattle.core_forms.specs.Code.{data_of}
use Rattle.core_forms.proofs.Rows.{made-as, exit-more, exit-is}
use Rattle.core_forms.proofs.core_rows.exit.Goals as goal

pub returns-then-not-is_empty : goal.returns-then-not-is_empty
returns-then-not-is_empty c = λ n. exit-more n c.args.at (data_of c.args.forms) c.in-Some.field-0.list c.pop.new.self c.in-Some.field-0.body c.in-Some-pop.name c.in-Some.ensures c.in-Some-pop.ensures (λ e. absurd (false≢true (c.if-not-is_empty.ensures.1 e)))

pub returns : goal.returns
returns c = λ n. made-as _ _ c.exit_node.result n (exit-is n c.args.at (data_of c.args.forms) c.in-Some.field-0.list c.pop.new.self c.in-Some.field-0.body c.in-Some-pop.name c.in_ok-binder.binder c.in-Some.ensures c.in-Some-pop.ensures (c.if-not-is_empty.ensures.0 refl) c.in_ok-binder.ensures)
    (c.exit_node.ensures n)
