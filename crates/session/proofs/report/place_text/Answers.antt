use Rattle.std.proofs.Common.{[], ◌∷◌}
use Rattle.scheme_data.specs.Decimal.{decimal_text}
use Rattle.session.specs.Messages.{line_words}
use Rattle.session.proofs.Pieces.{words_and_place}
use Rattle.session.proofs.report.place_text.Goals as goal

pub returns : goal.returns
returns c =
    words_and_place (line_words c.args.number) c.args.words.now (decimal_text c.args.at.line) (58 ∷ []) (decimal_text c.args.at.column) _ _ _ _
    c.in_ok-text.ensures c.in_ok-push_decimal.ensures.ok c.in_ok-push.ensures.ok c.in_ok-push_decimal-2.ensures.ok
