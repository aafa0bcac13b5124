use Rattle.std.proofs.Common.{◌≡◌, ◌++◌, map, drop}
use Rattle.scheme_data.specs.Forms.{form, forms}
use Rattle.syntax_rules.specs.Templates.{numbers_in}
use Rattle.syntax_rules.proofs.names.Names.+numbering.Given as goal

abbrev pub invariant-add_all_numbers-loop-d : goal.invariant-add_all_numbers-loop-d
invariant-add_all_numbers-loop-d l = l.numbers ++ numbers_in l.self.table (forms (map form (drop l.d-index l.ds))) ≡ l.initial.numbers ++ numbers_in l.self.table (forms (map form l.ds))
