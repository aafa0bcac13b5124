use Rattle.std.proofs.Common.{length, ◌-◌, ◌≡◌, ◌+◌, drop, ◌≤◌}
use Rattle.std.specs.List.{prefix_len}
use Rattle.scheme_tokens.specs.Comments.{not_newline}
use Rattle.scheme_tokens.proofs.comments.line_len.Given as goal

abbrev pub invariant-loop-n : goal.invariant-loop-n
invariant-loop-n l = record {
  within : l.n ≤ length l.rest;
  counted : l.n + prefix_len not_newline (drop l.n l.rest) ≡ prefix_len not_newline l.rest;
}

abbrev pub decreases-loop-n : goal.decreases-loop-n
decreases-loop-n l = length l.rest - l.n
