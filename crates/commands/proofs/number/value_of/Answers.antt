use Rattle.std.proofs.Common.{subst, List, ℕ}
use Rattle.std.specs.Str.Parse.{ParsesUnsigned}
use Rattle.commands.proofs.Numerals.{numeral_is_text, numeral_is_read}
use Rattle.commands.proofs.number.value_of.Goals as goal

pub returns-in_default : goal.returns-in_default
returns-in_default c = absurd (c.in_default.ensures.cases.0 (numeral_is_text c.args.digits.now c.requires))

pub returns-in_default-parse : goal.returns-in_default-parse
returns-in_default-parse c =
    let parses = subst (λ (bytes : List ℕ). ParsesUnsigned 64 10 bytes c.parse.result) c.in-Ok.ensures.cases.0 c.parse.ensures.value.0 in
    absurd (c.in_default-parse.not-Ok _ (numeral_is_read c.args.digits.now c.parse.result c.requires parses))
