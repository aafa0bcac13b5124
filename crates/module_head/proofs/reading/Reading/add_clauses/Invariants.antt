use Rattle.std.proofs.Common.{◌≡◌, drop}
use Rattle.module_head.specs.Heads.{clauses}
use Rattle.module_head.specs.Shapes.{forms_of}
use Rattle.module_head.specs.Steps.{take_all}
use Rattle.module_head.proofs.reading.Reading.add_clauses.Given as goal

abbrev pub invariant-loop-d : goal.invariant-loop-d
invariant-loop-d l = take_all (clauses (forms_of l.ds)) l.fn.self ≡ take_all (clauses (forms_of (drop l.d-index l.ds))) l.self
