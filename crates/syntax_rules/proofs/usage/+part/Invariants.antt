use Rattle.std.proofs.Common.{length}
use Rattle.syntax_rules.proofs.usage.+part.Given as goal

abbrev pub decreases-part : goal.decreases-part
decreases-part l = length l.path.now
