use Rattle.std.proofs.Common.{◌+◌, arith}
use Rattle.scheme_data.specs.Forms.{form}
use Rattle.syntax_rules.proofs.Elements.{element_behind_all}
use Rattle.syntax_rules.proofs.usage.element_behind.Goals as goal

pub returns-else-i-saturating_sub : goal.returns-else-i-saturating_sub
returns-else-i-saturating_sub c = element_behind_all (form c.args.d.now) (c.args.first + c.args.i) (omega arith)
