use Rattle.std.proofs.Common.{◌≡◌, ◌++◌, drop}
use Rattle.std.specs.Option.{option_map}
use Rattle.module_head.specs.Heads.{binders}
use Rattle.module_head.specs.Shapes.{forms_of}
use Rattle.module_head.proofs.entries.binders.Given as goal

abbrev pub invariant-loop-d : goal.invariant-loop-d
invariant-loop-d l = binders (forms_of l.ds) ≡ option_map (λ xs. l.found ++ xs) (binders (forms_of (drop l.d-index l.ds)))
