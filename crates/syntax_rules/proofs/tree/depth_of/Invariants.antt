use Rattle.std.proofs.Common.{◌≡◌, ◌≤◌, ◌+◌, drop}
use Rattle.syntax_rules.specs.Templates.{depth}
use Rattle.syntax_rules.proofs.tree.depth_of.Given as goal

abbrev pub invariant-loop-step : goal.invariant-loop-step
invariant-loop-step l = record {
  low : l.rows ≤ l.step-index;
  counted : l.rows + depth (drop l.step-index l.path) ≡ depth l.path;
}
