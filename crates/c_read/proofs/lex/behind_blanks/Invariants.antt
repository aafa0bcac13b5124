use Rattle.std.proofs.Common.{◌≡◌, drop}
use Rattle.c_tree.specs.Lexical.{tokens}
use Rattle.c_read.proofs.lex.behind_blanks.Given as goal

abbrev pub invariant-loop-i : goal.invariant-loop-i
invariant-loop-i l = tokens (drop l.i l.text) ≡ tokens l.text
