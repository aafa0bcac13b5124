use Rattle.std.proofs.Common.{◌≡◌, ◌++◌, drop}
use Rattle.std.specs.Option.{option_map}
use Rattle.module_head.specs.Heads.{types}
use Rattle.module_head.specs.Shapes.{forms_of}
use Rattle.module_head.proofs.items.types.Given as goal

abbrev pub invariant-loop-d : goal.invariant-loop-d
invariant-loop-d l = types (forms_of l.ds) ≡ option_map (λ xs. l.found ++ xs) (types (forms_of (drop l.d-index l.ds)))
