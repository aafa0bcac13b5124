use Rattle.syntax_rules.proofs.RuleParts.{no_rule}
use Rattle.syntax_rules.proofs.reading.read_rule.Goals as goal

pub returns-then-ds-ne2 : goal.returns-then-ds-ne2
returns-then-ds-ne2 c = no_rule c.args.literals.now _ c.in-Some.ds.now c.in-Some.ensures c.if-ds-ne2.true
