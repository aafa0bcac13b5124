use Rattle.std.proofs.Common.{◌∙◌, ap, ◌++◌, codes}
use Rattle.scheme_data.specs.Decimal.{decimal_text}
use Rattle.base_io.specs.Contents.{Bytes}
use Rattle.session.specs.Messages.{line_words}
use Rattle.session.proofs.Pieces.{five_pieces}
use Rattle.session.proofs.report.missing_text.Goals as goal

pub returns : goal.returns
returns c =
    five_pieces (line_words c.args.number) c.args.words.now (decimal_text c.args.object) (codes " ") c.args.module_name.now _ _ _ _
    c.in_ok-text.ensures c.in_ok-push_decimal.ensures.ok c.in_ok-push.ensures.ok (c.in_ok-extend.ensures.ok ∙ ap (λ (l : Bytes). c.push.new.self ++ l) c.as_bytes.ensures)
