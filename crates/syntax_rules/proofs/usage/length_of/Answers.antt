use Rattle.std.proofs.Common.{◌∙◌}
use Rattle.syntax_rules.proofs.Elements.{count_list}
use Rattle.syntax_rules.proofs.usage.length_of.Goals as goal

pub returns-in-List : goal.returns-in-List
returns-in-List c = rw c.in-List.is (c.len.ensures ∙ count_list c.in-List.field-0 c.in-List.ds)
