use Rattle.std.proofs.Common.{◌++◌, ◌∙◌, ap, codes}
use Rattle.base_io.specs.Contents.{Bytes}
use Rattle.session.specs.Messages.{line_words}
use Rattle.session.proofs.Pieces.{one_more_piece}
use Rattle.session.proofs.report.duplicate_text.Goals as goal

pub returns : goal.returns
returns c =
    one_more_piece (line_words c.args.number) (codes ": refusal 4 ") c.args.name.now _ _ c.in_ok-text.ensures (c.in_ok-extend.ensures.ok ∙ ap (λ (l : Bytes). c.in_ok-text.text ++ l) c.as_bytes.ensures)
