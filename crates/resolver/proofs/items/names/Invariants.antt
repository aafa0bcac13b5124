use Rattle.std.proofs.Common.{◌≡◌, ◌++◌, drop}
use Rattle.std.specs.Option.{option_map}
use Rattle.scheme_data.specs.Data.{plain_all}
use Rattle.resolver.specs.BuiltHeads.{names_of}
use Rattle.resolver.proofs.items.names.Given as goal

abbrev pub invariant-loop-d : goal.invariant-loop-d
invariant-loop-d l = names_of (plain_all l.ds) ≡ option_map (λ xs. l.found ++ xs) (names_of (plain_all (drop l.d-index l.ds)))
