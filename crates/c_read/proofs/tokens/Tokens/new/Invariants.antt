use Rattle.std.proofs.Common.{◌≡◌, ◌≤◌, length}
use Rattle.c_tree.specs.Lexical.{tokens}
use Rattle.c_read.proofs.tokens.Tokens.new.Given as goal

abbrev pub invariant-gaps : goal.invariant-gaps
invariant-gaps l = (tokens l.rest ≡ tokens l.text) × (length l.rest ≤ length l.text)

abbrev pub decreases-gaps : goal.decreases-gaps
decreases-gaps l = length l.rest
