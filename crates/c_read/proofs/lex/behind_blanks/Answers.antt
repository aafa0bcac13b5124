use Rattle.std.proofs.Common.{sym, ◌∙◌}
use Rattle.c_read.proofs.Lexing.{blank_on}
use Rattle.c_read.proofs.lex.behind_blanks.Goals as goal

pub loop-i-preserved : goal.loop-i-preserved
loop-i-preserved c = blank_on c.args.text.now c.loop-i.i c.loop-i-test.true (sym c.tells_space.ensures ∙ c.if-not-tells_space.false) c.loop-i.invariant
