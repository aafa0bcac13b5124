use Rattle.resolver.proofs.Adding.{main_wrong}
use Rattle.resolver.proofs.clauses.main_name.Goals as goal

pub returns-then-ds-ne1 : goal.returns-then-ds-ne1
returns-then-ds-ne1 c = main_wrong c.args.ds.now c.if-ds-ne1.true
