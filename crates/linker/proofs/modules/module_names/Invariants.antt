use Rattle.std.proofs.Common.{◌≡◌, ◌++◌, drop, true}
use Rattle.scheme_data.specs.Names.{are_distinct}
use Rattle.linker.specs.Links.{names_of}
use Rattle.linker.specs.Modules.{trees}
use Rattle.linker.proofs.modules.module_names.Given as goal

abbrev pub invariant-loop-indexed : goal.invariant-loop-indexed
invariant-loop-indexed l = (l.names ++ names_of (trees (drop l.indexed-index l.objects)) ≡ names_of (trees l.objects)) × (are_distinct l.names ≡ true)
