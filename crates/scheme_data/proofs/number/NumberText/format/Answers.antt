use Rattle.std.proofs.Common.{◌∙◌}
use Rattle.scheme_data.proofs.NumberTexts.{printed-number_text}
use Rattle.scheme_data.proofs.number.NumberText.format.Goals as goal

pub returns : goal.returns
returns c = c.as_bytes.ensures.value ∙ c.format.ensures.text ∙ printed-number_text c.args.n c.ranges.n
