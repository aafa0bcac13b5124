use Rattle.std.proofs.Common.{◌∙◌, ap, sym}
use Rattle.c_words.specs.Magnitudes.{with_sign}
use Rattle.c_words.proofs.WordNumbers.{sign_number}
use Rattle.c_words.proofs.numbers.fixnum.Goals as goal

pub returns-in-None-clause-value : goal.returns-in-None-clause-value
returns-in-None-clause-value c =
    ap (with_sign c.args.negative) (sym c.in-None.is ∙ c.magnitude.ensures.value) ∙ sign_number c.args.negative c.args.cursor.now.left c.magnitude.ensures.plain

pub returns-in-Some-clause-value : goal.returns-in-Some-clause-value
returns-in-Some-clause-value c =
    c.signed_fixnum.ensures ∙ ap (with_sign c.args.negative) (sym c.in-Some.is ∙ c.magnitude.ensures.value) ∙ sign_number c.args.negative c.args.cursor.now.left c.magnitude.ensures.plain
