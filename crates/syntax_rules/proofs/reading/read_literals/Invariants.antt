use Rattle.std.proofs.Common.{◌≡◌, [], map, drop}
use Rattle.scheme_data.specs.Forms.{form, forms}
use Rattle.syntax_rules.specs.Macros.{literals_of}
use Rattle.syntax_rules.proofs.reading.read_literals.Given as goal

abbrev pub invariant-loop-d : goal.invariant-loop-d
invariant-loop-d l = literals_of [] (forms (map form l.ds)) ≡ literals_of l.literals (forms (map form (drop l.d-index l.ds)))
