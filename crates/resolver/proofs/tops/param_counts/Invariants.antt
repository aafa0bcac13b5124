use Rattle.std.proofs.Common.{◌≡◌, ◌++◌, map, drop}
use Rattle.resolver.specs.Drafts.{definitions_in}
use Rattle.resolver.specs.Parts.{top_of, param_counts}
use Rattle.resolver.proofs.tops.param_counts.Given as goal

abbrev pub invariant-loop-top : goal.invariant-loop-top
invariant-loop-top l = param_counts (definitions_in (map top_of l.tops)) ≡ l.counts ++ param_counts (definitions_in (map top_of (drop l.top-index l.tops)))
