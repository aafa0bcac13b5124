use Rattle.std.proofs.Common.{◌≡◌, ◌+◌, map, drop}
use Rattle.scheme_data.specs.Forms.{form, forms, forms_size}
use Rattle.syntax_rules.proofs.filling.+counting.Given as goal

abbrev pub invariant-without_all-loop-d : goal.invariant-without_all-loop-d
invariant-without_all-loop-d l = l.initial.left + forms_size (forms (map form (drop l.d-index l.ds))) ≡ forms_size (forms (map form l.ds)) + l.left
