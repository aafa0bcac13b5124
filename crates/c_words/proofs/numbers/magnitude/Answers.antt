use Rattle.std.proofs.Common.{◌∙◌, drop}
use Rattle.c_words.proofs.WordNumbers.{magnitude_by_digits}
use Rattle.c_words.proofs.numbers.magnitude.Goals as goal

pub returns-in-Some-clause-value : goal.returns-in-Some-clause-value
returns-in-Some-clause-value c =
    let left = c.args.cursor.now.left in
    c.value.ensures.value ∙ magnitude_by_digits left c.in-Some.field-0 (drop 1 left) c.in-Some.ensures.left c.in-Some.field-0-test.1
