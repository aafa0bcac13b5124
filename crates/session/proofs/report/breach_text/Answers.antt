use Rattle.std.proofs.Common.{[], ◌∷◌, ◌++◌, ◌∙◌, ap, codes}
use Rattle.base_io.specs.Contents.{Bytes}
use Rattle.c_meaning.specs.Breaches.{cause_name}
use Rattle.session.specs.Messages.{line_words}
use Rattle.session.proofs.Pieces.{five_pieces}
use Rattle.session.proofs.report.breach_text.Goals as goal

pub returns : goal.returns
returns c =
    five_pieces (line_words c.args.number) (codes ": refusal 15 ") c.args.name.now (32 ∷ []) (cause_name c.args.cause) _ _ _ _
    c.in_ok-text.ensures (c.in_ok-extend.ensures.ok ∙ ap (λ (l : Bytes). c.in_ok-text.text ++ l) c.as_bytes.ensures) c.in_ok-push.ensures.ok (c.in_ok-extend-2.ensures.ok ∙ ap (λ (l : Bytes). c.push.new.self ++ l) c.name.ensures)
