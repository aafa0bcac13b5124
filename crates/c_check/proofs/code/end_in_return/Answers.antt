use Rattle.std.proofs.Common.{◌∙◌, sym}
use Rattle.c_check.proofs.Walking.{last_returns}
use Rattle.c_check.proofs.code.end_in_return.Goals as goal

pub returns-in-Some : goal.returns-in-Some
returns-in-Some c = c.is_return.ensures ∙ last_returns c.args.pieces.now c.in-Some.piece.now (sym c.in-Some.ensures.value)
