use Rattle.std.proofs.Common.{arith}
use Rattle.syntax_rules.proofs.Dots.{no_dots_end}
use Rattle.syntax_rules.proofs.words.dots_end.Goals as goal

pub returns-then-ds-i-ne2 : goal.returns-then-ds-i-ne2
returns-then-ds-i-ne2 c = no_dots_end c.args.ds.now c.args.i c.requires (λ e. omega arith)
