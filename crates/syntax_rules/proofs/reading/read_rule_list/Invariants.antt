use Rattle.std.proofs.Common.{◌≡◌, map, drop}
use Rattle.scheme_data.specs.Forms.{form, forms}
use Rattle.syntax_rules.specs.Macros.{rules_of}
use Rattle.syntax_rules.specs.Views.{the_rule}
use Rattle.syntax_rules.proofs.ReadLists.{rules_behind}
use Rattle.syntax_rules.proofs.reading.read_rule_list.Given as goal

abbrev pub invariant-loop-d : goal.invariant-loop-d
invariant-loop-d l = rules_of l.literals (forms (map form l.ds)) ≡ rules_behind (map the_rule l.rules) (rules_of l.literals (forms (map form (drop l.d-index l.ds))))
