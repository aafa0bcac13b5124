use Rattle.std.proofs.Common.{arith}
use Rattle.core_forms.proofs.Rows.{made-as, protect-few, protect-some}
use Rattle.core_forms.proofs.core_rows.protection.Goals as goal

pub returns-then-len-lt2 : goal.returns-then-len-lt2
returns-then-len-lt2 c = λ n. protect-few n c.args.at c.args.forms (omega (arith, c.len.ensures, c.if-len-lt2.true))

pub returns : goal.returns
returns c = λ n. made-as _ _ c.node.result n (protect-some n c.args.at c.args.forms (omega (arith, c.len.ensures, c.if-len-lt2.false))) (c.node.ensures n)
