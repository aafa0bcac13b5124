use Rattle.std.proofs.Common.{◌∙◌, ◌+◌, arith}
use Rattle.std.proofs.lemmas.List.{take_rest}
use Rattle.c_read.proofs.Lexing.{over_gap, one_token, no_longer}
use Rattle.c_read.proofs.tokens.Tokens.new.Goals as goal

pub gaps-preserved : goal.gaps-preserved
gaps-preserved c =
    let text = c.in-Some.start.text.now in
    let more = c.in-Gap.more in
    let is = take_rest text (1 + more) in
    let fewer = no_longer text _ (1 + more) is in (
      over_gap text _ more (omega (arith, c.in-Gap.ensures.within)) c.in-Gap.ensures.lexeme is ∙ c.in-Some.ensures.same ∙ c.gaps.invariant.0,
      omega (arith, fewer, c.in-Some.ensures.within, c.gaps.invariant.1),
    )

pub returns-in-Lexed : goal.returns-in-Lexed
returns-in-Lexed c =
    let text = c.in-Some.start.text.now in
    let more = c.in-Lexed.more in
    one_token text _ c.in-Lexed.token more (omega (arith, c.in-Lexed.ensures.within)) c.in-Lexed.ensures.lexeme (take_rest text (1 + more)) ∙ c.in-Some.ensures.same ∙ c.gaps.invariant.0
