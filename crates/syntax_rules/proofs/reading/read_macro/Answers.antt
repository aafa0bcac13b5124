use Rattle.syntax_rules.proofs.RuleParts.{no_macro}
use Rattle.syntax_rules.proofs.reading.read_macro.Goals as goal

pub returns-then-ds-ne3 : goal.returns-then-ds-ne3
returns-then-ds-ne3 c = no_macro _ c.in-Some.ds.now c.in-Some.ensures c.if-ds-ne3.true
