use Rattle.std.proofs.Common.{◌∙◌, ap}
use Rattle.std.specs.List.{prefix_len}
use Rattle.scheme_data.specs.Symbols.{is_symbol_byte}
use Rattle.scheme_tokens.proofs.Fronts.{rest_is, no_character, is_character}
use Rattle.scheme_tokens.proofs.hashes.character_at.Goals as goal

pub returns-in_default : goal.returns-in_default
returns-in_default c = no_character c.args.rest.now c.in_default.len_below

pub returns : goal.returns
returns c =
    is_character c.args.rest.now c.symbol_len-n.result c.character.result c.in-len1-up.len_at_least
    (c.symbol_len-n.ensures.value ∙ ap (prefix_len is_symbol_byte) (rest_is 1 c.args.rest.now)) c.character.ensures
