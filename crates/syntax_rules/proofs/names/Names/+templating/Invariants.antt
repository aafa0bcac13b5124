use Rattle.std.proofs.Common.{◌≡◌, map, drop, false}
use Rattle.scheme_data.specs.Forms.{form, forms}
use Rattle.syntax_rules.specs.Templates.{templates_of}
use Rattle.syntax_rules.specs.TreeViews.{the_template}
use Rattle.syntax_rules.proofs.ReadLists.{templates_behind}
use Rattle.syntax_rules.proofs.names.Names.+templating.Given as goal

abbrev pub invariant-list_template-loop-i : goal.invariant-list_template-loop-i
invariant-list_template-loop-i l = templates_of l.self.table l.self.paths l.depth false (forms (map form l.ds))
    ≡ templates_behind (map the_template l.elements) (templates_of l.self.table l.self.paths l.depth l.dots_may_come (forms (map form (drop l.i l.ds))))
