use Rattle.std.proofs.Common.{arith}
use Rattle.core_forms.proofs.Rows.{made-as, if-few, if-many, if-is}
use Rattle.core_forms.proofs.core_rows.branch.Goals as goal

pub returns-then-len-lt2 : goal.returns-then-len-lt2
returns-then-len-lt2 c = λ n. if-few n c.args.at c.args.forms (omega (arith, c.len.ensures, c.if-len-lt2.true))

pub returns-then-len-gt3 : goal.returns-then-len-gt3
returns-then-len-gt3 c = λ n. if-many n c.args.at c.args.forms (omega (arith, c.len-2.ensures, c.if-len-gt3.true))

pub returns : goal.returns
returns c = λ n. made-as _ _ c.node.result n (if-is n c.args.at c.args.forms (omega (arith, c.len.ensures, c.if-len-lt2.false)) (omega (arith, c.len-2.ensures, c.if-len-gt3.false))) (c.node.ensures n)
