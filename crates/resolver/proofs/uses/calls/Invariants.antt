use Rattle.std.proofs.Common.{◌≡◌, map, drop, Some}
use Rattle.resolver.specs.Trees.{import_tree}
use Rattle.resolver.specs.Elaboration.{both, calls}
use Rattle.resolver.specs.TakenRows.{use_of}
use Rattle.resolver.proofs.uses.calls.Given as goal

abbrev pub invariant-loop-place : goal.invariant-loop-place
invariant-loop-place l =
    calls l.interfaces (map import_tree l.imports) l.outside ≡ both (Some (map use_of l.taken)) (calls l.interfaces (map import_tree l.imports) (drop l.place l.outside))
