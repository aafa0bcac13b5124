use Rattle.std.proofs.Common.{◌≡◌, map, drop}
use Rattle.scheme_data.specs.Forms.{form, forms}
use Rattle.syntax_rules.specs.Patterns.{patterns_of}
use Rattle.syntax_rules.specs.TreeViews.{the_pattern}
use Rattle.syntax_rules.proofs.ReadLists.{patterns_behind}
use Rattle.syntax_rules.proofs.patterns.+reading.Given as goal

abbrev pub invariant-list_pattern_of-loop-i : goal.invariant-list_pattern_of-loop-i
invariant-list_pattern_of-loop-i l = patterns_of l.literals (forms (map form l.ds)) ≡ patterns_behind (map the_pattern l.front) (patterns_of l.literals (forms (map form (drop l.i l.ds))))
