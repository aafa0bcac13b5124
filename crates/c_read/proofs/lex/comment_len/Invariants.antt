use Rattle.std.proofs.Common.{◌≡◌, drop}
use Rattle.c_tree.specs.Lexical.{comment_from}
use Rattle.c_read.specs.Scans.{comment_onto}
use Rattle.c_read.proofs.lex.comment_len.Given as goal

abbrev pub invariant-loop-i : goal.invariant-loop-i
invariant-loop-i l = comment_onto l.i (comment_from l.last (drop l.i l.rest)) ≡ comment_from 0 l.rest
