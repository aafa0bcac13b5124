use Rattle.std.proofs.Common.{sym, ap, ◌∙◌}
use Rattle.c_read.specs.Scans.{word_lexeme}
use Rattle.c_read.proofs.Lexing.{word_front}
use Rattle.c_read.proofs.lex.scan_first.Goals as goal

pub returns-then-tells_word-clause-lexeme : goal.returns-then-tells_word-clause-lexeme
returns-then-tells_word-clause-lexeme c =
    c.word_at.ensures.lexeme
    ∙ ap word_lexeme c.requires
    ∙ word_front c.args.first c.args.rest.now (sym c.tells_space.ensures ∙ c.if-tells_space.false) (sym c.tells_word.ensures ∙ c.if-tells_word.true)
