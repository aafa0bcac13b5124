use Rattle.std.proofs.Common.{◌≡◌, drop}
use Rattle.scheme_data.specs.Names.{is_same}
use Rattle.resolver.specs.Parts.{with_first}
use Rattle.resolver.proofs.imports.add_names.Given as goal

abbrev pub invariant-loop-name : goal.invariant-loop-name
invariant-loop-name l = with_first is_same l.fn.table l.names ≡ with_first is_same l.table (drop l.name-index l.names)
