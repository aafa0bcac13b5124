use Rattle.std.proofs.Common.{◌≡◌, drop}
use Rattle.std.specs.Option.{is_some}
use Rattle.scheme_data.specs.Data.{plain_all}
use Rattle.resolver.specs.BuiltHeads.{names_of}
use Rattle.resolver.proofs.items.are_names.Given as goal

abbrev pub invariant-loop-d : goal.invariant-loop-d
invariant-loop-d l = is_some (names_of (plain_all l.ds)) ≡ is_some (names_of (plain_all (drop l.d-index l.ds)))
