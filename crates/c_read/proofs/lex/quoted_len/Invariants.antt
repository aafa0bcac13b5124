use Rattle.std.proofs.Common.{◌≡◌, ◌+◌, drop}
use Rattle.c_tree.specs.Lexical.{quoted_from}
use Rattle.c_read.specs.Scans.{size_onto, size_in}
use Rattle.c_read.proofs.lex.quoted_len.Given as goal

abbrev pub invariant-loop-i : goal.invariant-loop-i
invariant-loop-i l = size_onto (l.i + l.skip) (quoted_from l.skip (drop l.i l.rest)) ≡ size_in (quoted_from 0 l.rest)
