use Rattle.std.proofs.Common.{◌∙◌, sym}
use Rattle.scheme_tokens.proofs.Fronts.{no_string, is_string}
use Rattle.scheme_tokens.proofs.strings.string_at.Goals as goal

pub returns-in_default : goal.returns-in_default
returns-in_default c = no_string c.args.rest.now (sym c.in_default.is ∙ c.text_len.ensures.value)

pub returns : goal.returns
returns c = is_string c.args.rest.now c.in_ok-text.text c.in-Some.n (sym c.in-Some.is ∙ c.text_len.ensures.value) c.in_ok-text.ensures
