use Rattle.std.proofs.Common.{◌+◌, ◌*◌, min, sym, ◌∙◌, ap}
use Rattle.scheme_tokens.proofs.Digits.{so_far_more}
use Rattle.scheme_tokens.proofs.words.digits.Goals as goal

pub loop-b-preserved : goal.loop-b-preserved
loop-b-preserved c =
    so_far_more _ _ c.loop-b.n _ c.loop-b-test.true (sym c.is_digit.ensures ∙ c.if-not-is_digit.false)
    (c.min-n.ensures ∙ ap (λ d. min (10 * c.loop-b.n + d) 1152921504606846977) c.from.ensures) c.loop-b.invariant
