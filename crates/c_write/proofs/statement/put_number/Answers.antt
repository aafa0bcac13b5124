use Rattle.std.proofs.Common.{refl, ◌++◌, ◌∙◌, ap}
use Rattle.scheme_data.specs.Decimal.{number_text}
use Rattle.scheme_data.proofs.NumberTexts.{same_fixnum}
use Rattle.c_write.proofs.Adding.{word_adds}
use Rattle.c_write.proofs.Words.{number_word}
use Rattle.c_write.proofs.statement.put_number.Goals as goal

pub returns : goal.returns
returns c =
    let n = c.args.n in
    let out = c.args.out.now in
    word_adds out c.push_number.new.text (number_text n) (number_word n c.requires)
    (c.in_ok-push_number.ensures.ok ∙ ap (λ k. out ++ number_text k) (same_fixnum n n c.requires refl))
