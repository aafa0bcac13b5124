use Rattle.std.proofs.Common.{◌≡◌, ◌+◌, drop}
use Rattle.c_tree.specs.Lexical.{quoted_from}
use Rattle.c_read.specs.Scans.{quoted_onto}
use Rattle.c_read.proofs.lex.quoted.Given as goal

abbrev pub invariant-loop-i : goal.invariant-loop-i
invariant-loop-i l = quoted_onto l.bytes (l.i + l.skip) (quoted_from l.skip (drop l.i l.rest)) ≡ quoted_from 0 l.rest
