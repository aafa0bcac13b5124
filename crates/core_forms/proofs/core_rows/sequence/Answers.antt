use Rattle.std.proofs.lemmas.Bool.{false≢true}
use Rattle.core_forms.proofs.Rows.{made-as, begin-is}
use Rattle.core_forms.proofs.core_rows.sequence.Goals as goal

pub returns : goal.returns
returns c = λ n. made-as _ _ c.node.result n (begin-is n c.args.at c.args.forms (λ e. absurd (false≢true (c.if-is_empty.ensures.1 e)))) (c.node.ensures n)
