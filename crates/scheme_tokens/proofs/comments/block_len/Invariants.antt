use Rattle.std.proofs.Common.{◌≡◌, ◌≤◌, drop}
use Rattle.scheme_tokens.specs.Comments.{comment_len}
use Rattle.scheme_tokens.proofs.Scanning.{ahead}
use Rattle.scheme_tokens.proofs.comments.block_len.Given as goal

abbrev pub invariant-loop-i : goal.invariant-loop-i
invariant-loop-i l = record {
  low : l.inside ≤ l.i;
  left : ahead l.i (comment_len l.last l.inside (drop l.i l.rest)) ≡ comment_len 0 0 l.rest;
}
