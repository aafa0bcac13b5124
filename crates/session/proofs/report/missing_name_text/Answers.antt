use Rattle.std.proofs.Common.{◌∙◌, ap, ◌++◌, codes}
use Rattle.scheme_data.specs.Decimal.{decimal_text}
use Rattle.base_io.specs.Contents.{Bytes}
use Rattle.session.specs.Messages.{line_words}
use Rattle.session.proofs.Pieces.{one_more_piece}
use Rattle.session.proofs.report.missing_name_text.Goals as goal

pub returns : goal.returns
returns c =
    let front : Bytes = codes ": refusal 18 " ++ decimal_text c.args.object ++ codes " " ++ c.args.module_name.now in
    let named = c.in_ok-extend.ensures.ok ∙ ap (λ (l : Bytes). c.push.new.self ++ l) c.as_bytes.ensures in
    one_more_piece (line_words c.args.number) (front ++ codes " ") c.args.name.now _ _ (one_more_piece (line_words c.args.number) front (codes " ") _ _ c.in_ok-text.ensures c.in_ok-push.ensures.ok) named
