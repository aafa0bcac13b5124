use Rattle.std.proofs.Common.{drop, sym, ◌∙◌}
use Rattle.c_words.proofs.SymbolsOrNumbers.{number_alone}
use Rattle.c_words.proofs.names.symbol_or_number.Goals as goal

pub returns-in-Some-clause-value : goal.returns-in-Some-clause-value
returns-in-Some-clause-value c =
    let left = c.args.cursor.now.left in
    c.numeral.ensures.value ∙ number_alone left c.in-Some.first (drop 1 left) c.in-Some.ensures.left (sym c.is_digit.ensures ∙ c.if-is_digit.true)
