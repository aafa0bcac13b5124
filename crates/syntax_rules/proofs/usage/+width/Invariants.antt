use Rattle.std.proofs.Common.{length}
use Rattle.syntax_rules.proofs.usage.+width.Given as goal

abbrev pub decreases-width : goal.decreases-width
decreases-width l = length l.path.now
